-- Small projects whose loads compute.
use Rattle.std.specs.Prelude.{ℕ, List, [], ◌∷◌, false, true, None, Ok, codes}
use Rattle.dg_base.specs.declared.datum.Datum.TheVariants as datum
use Rattle.dg_base.specs.declared.datum.PType.TheVariants as ptype
use Rattle.dg_base.specs.declared.step.NodeRef.{NodeRef}
use Rattle.dg_base.specs.declared.step.NodeRef.TheVariants as ref
use Rattle.dg_base.specs.declared.step.Step.{Step}
use Rattle.dg_base.specs.declared.step.Step.TheVariants as step
use Rattle.dg_labels.specs.declared.kinds.TheConstants as kinds
use Rattle.dg_labels.specs.declared.labels.TheConstants as labels
use Rattle.dg_desc.specs.declared.descs.PropDesc.{PropDesc}
use Rattle.dg_sources.specs.declared.source.Sources.{Sources}
use Rattle.dg_load.specs.Draft.{new}

abbrev speed : List ℕ → PropDesc
speed value = record { line = 1; id = codes "speed"; value = value; kind = ptype.Number; unknown = [] }

-- a collection that names itself
abbrev pub recursive : Sources
recursive = record {
  paths = codes "/r.collection" ∷ [];
  scripts = [];
  objects = [];
  collections = record {
    path = codes "/r.collection";
    read = Ok (record {
      name = codes "r";
      scale_along_z = false;
      instances = [];
      embedded_instances = [];
      collection_instances = record {
        line = 2;
        id = codes "me";
        collection = codes "/r.collection";
        position = None;
        rotation = None;
        scale3 = None;
        instance_properties = [];
        unknown = [];
      } ∷ [];
      unknown = [];
    });
  } ∷ [];
  file_count = 1;
}

-- it isn't filled yet when its own instance is made, which so is defective
abbrev pub recursive_steps : List Step
recursive_steps =
    step.Make kinds.COLLECTION
    ∷ step.Set (new 0) labels.PATH (datum.Text (codes "/r.collection"))
    ∷ step.Set (new 0) labels.NAME (datum.Text (codes "r"))
    ∷ step.Make kinds.COLL_INSTANCE
    ∷ step.Set (new 1) labels.ID (datum.Text (codes "me"))
    ∷ step.Mark (new 1) true
    ∷ step.Connect (new 1) labels.INSTANCE (new 0) labels.SUBS
    ∷ []

-- a script, a game object with it, and a collection with the game object, each of which gives the same property
abbrev pub layered : Sources
layered = record {
  paths = codes "/m.collection" ∷ codes "/p.go" ∷ codes "/p.script" ∷ [];
  scripts = record {
    path = codes "/p.script";
    read = Ok (record { id = codes "speed"; ptype = ptype.Number; text = codes "100" } ∷ []);
  } ∷ [];
  objects = record {
    path = codes "/p.go";
    read = Ok (record {
      components = record {
        line = 1;
        id = codes "p";
        component = codes "/p.script";
        position = None;
        rotation = None;
        properties = speed (codes "250") ∷ [];
        unknown = [];
      } ∷ [];
      embedded_components = [];
      unknown = [];
    });
  } ∷ [];
  collections = record {
    path = codes "/m.collection";
    read = Ok (record {
      name = codes "m";
      scale_along_z = false;
      instances = record {
        line = 1;
        id = codes "x";
        prototype = codes "/p.go";
        children = [];
        position = None;
        rotation = None;
        scale3 = None;
        component_properties = record { line = 1; id = codes "p"; properties = speed (codes "300") ∷ []; unknown = [] } ∷ [];
        unknown = [];
      } ∷ [];
      embedded_instances = [];
      collection_instances = [];
      unknown = [];
    });
  } ∷ [];
  file_count = 3;
}

abbrev speed_set : NodeRef → List ℕ → Step
speed_set at value =
    step.Set at (record { 0 = 1024 }) (datum.Prop (record { name = record { 0 = 1024 }; ptype = ptype.Number; text = value }))

-- the instance's property is set on the override node of the component
abbrev pub layered_steps : List Step
layered_steps =
    step.Make kinds.SCRIPT_FILE
    ∷ step.Set (new 0) labels.PATH (datum.Text (codes "/p.script"))
    ∷ speed_set (new 0) (codes "100")
    ∷ step.Make kinds.GAME_OBJECT
    ∷ step.Set (new 1) labels.PATH (datum.Text (codes "/p.go"))
    ∷ step.Make kinds.COMPONENT_REF
    ∷ step.Set (new 2) labels.ID (datum.Text (codes "p"))
    ∷ speed_set (new 2) (codes "250")
    ∷ step.Connect (new 0) labels.RESOURCE (new 2) labels.RESOURCE
    ∷ step.Connect (new 2) labels.COMPONENT (new 1) labels.COMPONENTS
    ∷ step.Make kinds.COLLECTION
    ∷ step.Set (new 3) labels.PATH (datum.Text (codes "/m.collection"))
    ∷ step.Set (new 3) labels.NAME (datum.Text (codes "m"))
    ∷ step.Make kinds.GO_INSTANCE
    ∷ step.Set (new 4) labels.ID (datum.Text (codes "x"))
    ∷ step.Override (new 1)
    ∷ speed_set (ref.In (new 5) (new 2)) (codes "300")
    ∷ step.Connect (new 5) labels.OBJECT (new 4) labels.SOURCE
    ∷ step.Connect (new 4) labels.INSTANCE (new 3) labels.INSTANCES
    ∷ []
