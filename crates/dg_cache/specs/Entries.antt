-- Lists of endpoints with their answers, most recent first, and what touching, putting and taking out make
-- of them.
use Rattle.std.specs.Prelude.{ℕ, List, [], ◌∷◌, ◌++◌, Bool, true, cond, not, ◌&&◌, Option, Some, None, map, filter, take}
use Rattle.dg_base.specs.declared.ids.Endpoint.{Endpoint}
use Rattle.dg_base.specs.declared.answer.Answer.{Answer}
use Rattle.dg_base.specs.Same.{same_end}
use Rattle.dg_base.specs.Order.{is_end_among, ordered}
use Rattle.dg_cache.specs.declared.entry.Entry.{Entry}

abbrev pub ends_of : List Entry → List Endpoint
ends_of es = map (λ x. x.at) es

-- as the pairs of a map
abbrev pub pairs_of : List Entry → List (Endpoint × Answer)
pairs_of es = map (λ x. (x.at, x.value)) es

-- each endpoint stands once
abbrev pub ends_once : List Endpoint → Bool
ends_once [] = true
ends_once (e ∷ ends) = not (is_end_among ends e) && ends_once ends

abbrev pub is_at : Endpoint → Entry → Bool
is_at e x = same_end e x.at

-- what stands first with an endpoint
abbrev pub value_in : List Entry → Endpoint → Option Answer
value_in [] e = None
value_in (x ∷ es) e = cond (is_at e x) (Some x.value) (value_in es e)

-- the entries with an endpoint, and those with others
abbrev pub entry_of : Endpoint → List Entry → List Entry
entry_of e es = filter (is_at e) es

abbrev pub others : Endpoint → List Entry → List Entry
others e es = filter (λ x. not (is_at e x)) es

-- the entries outside some endpoints
abbrev pub without : List Endpoint → List Entry → List Entry
without ds es = filter (λ x. not (is_end_among ds x.at)) es

-- an endpoint's entry, where there is one, goes to the front
abbrev pub to_front : Endpoint → List Entry → List Entry
to_front e es = entry_of e es ++ others e es

-- several go to the front, one after the other
abbrev pub touched : List Endpoint → List Entry → List Entry
touched [] es = es
touched (e ∷ ends) es = touched ends (to_front e es)

-- a new entry goes to the front in place of the old one of its endpoint, and the list is cut to the capacity
abbrev pub put_entry : ℕ → Entry → List Entry → List Entry
put_entry capacity x es = take capacity (x ∷ others x.at es)

-- several are put, one after the other
abbrev pub put_all : ℕ → List Entry → List Entry → List Entry
put_all capacity [] es = es
put_all capacity (x ∷ xs) es = put_all capacity xs (put_entry capacity x es)

-- the entries of some endpoints, in the order of these
abbrev pub entries_at : List Endpoint → List Entry → List Entry
entries_at [] es = []
entries_at (e ∷ ends) es = entry_of e es ++ entries_at ends es

-- the entries in endpoint order
abbrev pub in_order : List Entry → List Entry
in_order es = entries_at (ordered (ends_of es)) es
