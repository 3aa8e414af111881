use Rattle.std.proofs.Common.{◌≡◌, ◌++◌, ◌∷◌, [], List, refl, ap, ◌∙◌}
use Rattle.dg_base.specs.declared.ids.Endpoint.{Endpoint}
use Rattle.dg_base.specs.Graph.{Graph}
use Rattle.dg_base.specs.Tables.{Tables}
use Rattle.dg_cache.specs.declared.entry.Entry.{Entry}
use Rattle.dg_laws.proofs.Members.{Contains-none}
use Rattle.dg_offer.specs.Offers.{IsOffer}
use Rattle.dg_desk.proofs.tests.asked.Goals as goal

abbrev one : Endpoint
one = record { node = record { 0 = 1 }; label = record { 0 = 1 } }

-- an evaluation of a known endpoint lists nothing and hits that one
known : (t : Tables) (g : Graph) (xs : List Entry) (hs : List Endpoint) → xs ≡ [] → hs ≡ one ∷ [] → IsOffer t g one xs hs
known t g xs hs none only = rw (none, only) (record { right = λ x h. Contains-none x h; entries = refl; hits = refl })

pub of-requires : goal.of-requires
of-requires c = known _ _ _ _ c.new.ensures.items (c.in_ok-push.ensures.items ∙ ap (λ es. es ++ one ∷ []) c.new-hits.ensures.items)
