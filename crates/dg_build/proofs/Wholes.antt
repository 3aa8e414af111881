-- The files of a collection, put behind those that are there.
use Rattle.std.proofs.Common.{◌≡◌, ◌∙◌, ℕ, List, [], ◌∷◌, ◌++◌, map, ap, append_assoc}
use Rattle.std.specs.Str.{bytes_eq}
use Rattle.dg_base.specs.declared.datum.Datum.{Datum}
use Rattle.dg_build.specs.declared.target.Target.{Target}
use Rattle.dg_build.specs.Firsts.{firsts}
use Rattle.dg_build.specs.Paths.{collection_path}
use Rattle.dg_build.specs.Entries.{collection_text}
use Rattle.dg_build.specs.Targets.{target, object_targets, collection_targets}

pub collection_put : (stem : List ℕ) (built : Datum) (entries : List (Datum × List ℕ)) (old mid new : List Target) (texts : List (List ℕ)) (path text : List ℕ) →
    texts ≡ firsts bytes_eq (map (λ e. e.1) entries) → mid ≡ old ++ object_targets stem texts → path ≡ collection_path stem →
    text ≡ collection_text stem texts built entries → new ≡ mid ++ target path text ∷ [] → new ≡ old ++ collection_targets stem built entries
collection_put stem built entries old mid new texts path text texts_are before path_is text_is is =
    is
    ∙ ap (λ (l : List Target). l ++ target path text ∷ []) before
    ∙ append_assoc old (object_targets stem texts) (target path text ∷ [])
    ∙ ap (λ p. old ++ (object_targets stem texts ++ target p text ∷ [])) path_is
    ∙ ap (λ t. old ++ (object_targets stem texts ++ target (collection_path stem) t ∷ [])) text_is
    ∙ ap (λ ts. old ++ (object_targets stem ts ++ target (collection_path stem) (collection_text stem ts built entries) ∷ [])) texts_are
