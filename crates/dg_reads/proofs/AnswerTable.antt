-- A table of all endpoints' answers, round by round, as fuel grows.
use Rattle.std.proofs.Common.{◌≡◌, ℕ, zero, suc, ◌+◌, ◌-◌, ◌<◌, ◌≤◌, Bool, true, false, not, ◌||◌, cond, ltb, List, [], ◌∷◌, ◌++◌, Option, Some, None, is_some, map, filter, length, drop, position, get_or, count_by, Contains, refl, sym, ap, ◌∙◌, subst, inl, inr, arith, true≢false, add-suc, suc-add, zero-add, add-zero, append_assoc}
use Rattle.std.proofs.lemmas.Bool.{cases_lt}
use Rattle.std.proofs.lemmas.Bool.Decides.{nat_tests}
use Rattle.std.proofs.lemmas.List.{length-map, get_or-map, nil_from_length, drop_more}
use Rattle.std.proofs.lemmas.List.Elements.{Contains-append_left, Contains-append_right}
use Rattle.std.proofs.lemmas.List.Quantifiers.{position-Some}
use Rattle.std.proofs.lemmas.Option.{slice_get-get_or}
use Rattle.std.proofs.lemmas.List.Sums.{length-filter}
use Rattle.std.specs.List.{list_any, position_or_len}
use Rattle.indexmap.specs.IndexSet.{insert_key, insert_all}
use Rattle.dg_base.specs.declared.ids.Endpoint.{Endpoint}
use Rattle.dg_base.specs.declared.answer.Answer.{Answer}
use Rattle.dg_base.specs.declared.answer.Answer.TheVariants as answer
use Rattle.dg_base.specs.Same.{same_end}
use Rattle.dg_base.specs.Tables.{Tables, AreTables}
use Rattle.dg_base.specs.Graph.{Graph}
use Rattle.dg_base.specs.Rule.{rule_of, endpoints}
use Rattle.dg_base.specs.Value.{is_cycle, answer_by, value_within, enough_fuel, value_at}
use Rattle.dg_base.specs.Sound.{IsSound}
use Rattle.dg_laws.proofs.Members.{Contains-head, Contains-cases, Contains-none, list_any_from, list_any_gives}
use Rattle.dg_laws.proofs.Ends.{same_end-is, same_end-itself}
use Rattle.dg_laws.proofs.Nodes.{IsLinked-from_sound}
use Rattle.dg_laws.proofs.Endpoints.{Covers, covers}
use Rattle.dg_laws.proofs.Fuel.{answer_by-same, is_cycle-is, settled, absent_value, stable_from, stable_after}
use Rattle.dg_reads.specs.declared.values.EndpointRule.{EndpointRule}
use Rattle.dg_reads.specs.AnswerTable.{known_or, at_place, known, next_answer, next_answers, endpoint_rule, first_answer_of, answers_after}

-- ---- answers in their places

any_or : (b : Bool) (n m : ℕ) (any : Bool) → ltb n m ≡ any → ltb (cond (not b) (1 + n) 0) (suc m) ≡ b || any
any_or true n m any e = grind (arith, nat_tests)
any_or false n m any e = let more : ltb (1 + n) (suc m) ≡ ltb n m = grind (arith, nat_tests) in more ∙ e

some_if : (b : Bool) (n : ℕ) → is_some (cond b (Some n) None) ≡ b
some_if true n = refl
some_if false n = refl

-- one stands somewhere just where the test passes
is_found : {X : Type 0} (p : X → Bool) (xs : List X) → is_some (position p xs) ≡ list_any p xs
is_found {X} p xs = some_if (ltb (position_or_len p xs) (length xs)) (position_or_len p xs) ∙ within xs
  where
    within : (ys : List X) → ltb (position_or_len p ys) (length ys) ≡ list_any p ys
    within [] = refl
    within (y ∷ ys) = any_or (p y) (position_or_len p ys) (length ys) (list_any p ys) (within ys)

-- what stands in the places of endpoints that cover the graph is the value of each
known_value : (t : Tables) (g : Graph) (es : List Endpoint) → Covers t g es → (k : ℕ) (e : Endpoint) →
    known es (map (value_within (suc k) t g) es) e ≡ value_within (suc k) t g e
known_value t g es covered k e = by_place (position (same_end e) es) refl
  where
    value : Endpoint → Answer
    value = value_within (suc k) t g

    by_place : (o : Option ℕ) → position (same_end e) es ≡ o → known_or e (at_place (map (value_within (suc k) t g) es) o) ≡ value_within (suc k) t g e
    by_place (Some i) is =
        let at = position-Some (same_end e) es i e is in
        let here : get_or es i e ≡ e = sym (same_end-is e (get_or es i e) at.1) in
        let below : i < length (map (value_within (suc k) t g) es) = subst (λ (n : ℕ). i < n) (sym (length-map es (value_within (suc k) t g))) at.0 in
        ap (known_or e) (slice_get-get_or (map (value_within (suc k) t g) es) i answer.Cycle below)
        ∙ get_or-map (value_within (suc k) t g) es i e answer.Cycle at.0
        ∙ ap (value_within (suc k) t g) here
    by_place None is =
        elim (covered e) [
          | inl among ↦
              let there : list_any (same_end e) es ≡ true = list_any_from (same_end e) es e among (same_end-itself e) in
              absurd (true≢false (sym there ∙ sym (is_found (same_end e) es) ∙ ap is_some is))
          | inr absent ↦ sym (absent_value k t g e absent)
        ]

-- ---- a round is one fuel more

next_value : (t : Tables) (g : Graph) (value : Endpoint → Answer) (k : ℕ) → ((e : Endpoint) → value e ≡ value_within k t g e) → (e : Endpoint) →
    next_answer t value (endpoint_rule t g e) (value_within k t g e) ≡ value_within (suc k) t g e
next_value t g value k agree e = by_test (is_cycle (value_within k t g e)) refl
  where
    by_test : (b : Bool) → is_cycle (value_within k t g e) ≡ b → cond b (answer_by t e value (rule_of t g e)) (value_within k t g e) ≡ value_within (suc k) t g e
    by_test true is = answer_by-same t e value (value_within k t g) (rule_of t g e) (λ o c. agree o)
    by_test false is = sym (settled k t g e is)

next_values : (t : Tables) (g : Graph) (value : Endpoint → Answer) (k : ℕ) → ((e : Endpoint) → value e ≡ value_within k t g e) → (es : List Endpoint) →
    next_answers t value (map (endpoint_rule t g) es) (map (value_within k t g) es) ≡ map (value_within (suc k) t g) es
next_values t g value k agree [] = refl
next_values t g value k agree (e ∷ es) =
    ap (λ (a : Answer). a ∷ next_answers t value (map (endpoint_rule t g) es) (map (value_within k t g) es)) (next_value t g value k agree e)
    ∙ ap (λ (as_ : List Answer). value_within (suc k) t g e ∷ as_) (next_values t g value k agree es)

rounds : (n : ℕ) (t : Tables) (g : Graph) (es : List Endpoint) → Covers t g es → (k : ℕ) →
    answers_after n t es (map (endpoint_rule t g) es) (map (value_within (suc k) t g) es) ≡ map (value_within (suc (n + k)) t g) es
rounds zero t g es covered k = ap (λ (j : ℕ). map (value_within (suc j) t g) es) (sym (zero-add k))
rounds (suc n) t g es covered k =
    ap (answers_after n t es (map (endpoint_rule t g) es)) (next_values t g (known es (map (value_within (suc k) t g) es)) (suc k) (known_value t g es covered k) es)
    ∙ rounds n t g es covered (suc k)
    ∙ ap (λ (j : ℕ). map (value_within (suc j) t g) es) (add-suc n k ∙ sym (suc-add n k))

first_values : (t : Tables) (g : Graph) (es : List Endpoint) → map (first_answer_of t) (map (endpoint_rule t g) es) ≡ map (value_within (suc zero) t g) es
first_values t g [] = refl
first_values t g (e ∷ es) = ap (λ (as_ : List Answer). value_within (suc zero) t g e ∷ as_) (first_values t g es)

-- ---- a round that settles nothing changes nothing

pub length_next : (t : Tables) (value : Endpoint → Answer) (qs : List EndpointRule) (as_ : List Answer) → length as_ ≡ length qs → length (next_answers t value qs as_) ≡ length qs
length_next t value [] as_ h = refl
length_next t value (q ∷ qs) [] h = h
length_next t value (q ∷ qs) (a ∷ as_) h = ap (λ (n : ℕ). suc n) (length_next t value qs as_ (omega (arith, h)))

abbrev cycles_among : List Answer → ℕ
cycles_among as_ = length (filter is_cycle as_)

fewer_cycles : (t : Tables) (value : Endpoint → Answer) (qs : List EndpointRule) (as_ : List Answer) → length as_ ≡ length qs →
    cycles_among (next_answers t value qs as_) ≤ cycles_among as_
fewer_cycles t value [] as_ h = omega arith
fewer_cycles t value (q ∷ qs) [] h = omega arith
fewer_cycles t value (q ∷ qs) (a ∷ as_) h = by_test (is_cycle a) refl (fewer_cycles t value qs as_ (omega (arith, h)))
  where
    by_test : (b : Bool) → is_cycle a ≡ b → length (filter is_cycle (next_answers t value qs as_)) ≤ cycles_among as_ →
        length (cond (is_cycle (cond b (answer_by t q.at value q.rule) a)) (cond b (answer_by t q.at value q.rule) a ∷ filter is_cycle (next_answers t value qs as_)) (filter is_cycle (next_answers t value qs as_))) ≤ length (cond b (a ∷ filter is_cycle as_) (filter is_cycle as_))
    by_test true is rest =
        elim (is_cycle (answer_by t q.at value q.rule)) as (λ c. length (cond c (answer_by t q.at value q.rule ∷ filter is_cycle (next_answers t value qs as_)) (filter is_cycle (next_answers t value qs as_))) ≤ suc (cycles_among as_)) [
          | true ↦ omega (arith, rest)
          | false ↦ omega (arith, rest)
        ]
    by_test false is rest = rw is rest

same_cycles : (t : Tables) (value : Endpoint → Answer) (qs : List EndpointRule) (as_ : List Answer) → length as_ ≡ length qs →
    cycles_among (next_answers t value qs as_) ≡ cycles_among as_ → next_answers t value qs as_ ≡ as_
same_cycles t value [] as_ h same = sym (nil_from_length as_ h)
same_cycles t value (q ∷ qs) [] h same = refl
same_cycles t value (q ∷ qs) (a ∷ as_) h same =
    by_test (is_cycle a) refl same (fewer_cycles t value qs as_ (omega (arith, h))) (same_cycles t value qs as_ (omega (arith, h)))
  where
    by_again : (c : Bool) → is_cycle (answer_by t q.at value q.rule) ≡ c → is_cycle a ≡ true → length (cond c ((answer_by t q.at value q.rule) ∷ filter is_cycle (next_answers t value qs as_)) (filter is_cycle (next_answers t value qs as_))) ≡ suc (cycles_among as_) →
        length (filter is_cycle (next_answers t value qs as_)) ≤ cycles_among as_ → (length (filter is_cycle (next_answers t value qs as_)) ≡ cycles_among as_ → next_answers t value qs as_ ≡ as_) → (answer_by t q.at value q.rule) ∷ next_answers t value qs as_ ≡ a ∷ as_
    by_again true again is same few rest =
        ap (λ (z : Answer). z ∷ next_answers t value qs as_) (is_cycle-is (answer_by t q.at value q.rule) again ∙ sym (is_cycle-is a is))
        ∙ ap (λ (z : List Answer). a ∷ z) (rest (omega (arith, same)))
    by_again false again is same few rest = absurd (omega (arith, same, few))

    by_test : (b : Bool) → is_cycle a ≡ b →
        length (cond (is_cycle (cond b (answer_by t q.at value q.rule) a)) (cond b (answer_by t q.at value q.rule) a ∷ filter is_cycle (next_answers t value qs as_)) (filter is_cycle (next_answers t value qs as_))) ≡ length (cond b (a ∷ filter is_cycle as_) (filter is_cycle as_)) →
        length (filter is_cycle (next_answers t value qs as_)) ≤ cycles_among as_ → (length (filter is_cycle (next_answers t value qs as_)) ≡ cycles_among as_ → next_answers t value qs as_ ≡ as_) → cond b (answer_by t q.at value q.rule) a ∷ next_answers t value qs as_ ≡ a ∷ as_
    by_test true is same few rest = by_again (is_cycle (answer_by t q.at value q.rule)) refl is same few rest
    by_test false is same few rest =
        let shorter : length (filter is_cycle (next_answers t value qs as_)) ≡ cycles_among as_ = ap (λ c. length (cond c (a ∷ filter is_cycle (next_answers t value qs as_)) (filter is_cycle (next_answers t value qs as_)))) (sym is) ∙ same in
        ap (λ (z : List Answer). a ∷ z) (rest shorter)

pub nothing_settled : (t : Tables) (value : Endpoint → Answer) (qs : List EndpointRule) (as_ : List Answer) → length as_ ≡ length qs →
    count_by is_cycle (next_answers t value qs as_) ≡ count_by is_cycle as_ → next_answers t value qs as_ ≡ as_
nothing_settled t value qs as_ h same =
    same_cycles t value qs as_ h (length-filter is_cycle (next_answers t value qs as_) ∙ same ∙ sym (length-filter is_cycle as_))

pub stays : (n : ℕ) (t : Tables) (es : List Endpoint) (qs : List EndpointRule) (as_ : List Answer) → next_answers t (known es as_) qs as_ ≡ as_ → answers_after n t es qs as_ ≡ as_
stays zero t es qs as_ h = refl
stays (suc n) t es qs as_ h = ap (answers_after n t es qs) h ∙ stays n t es qs as_ h

-- ---- all together

same_value : {t : Tables} {g : Graph} → IsSound t g → AreTables t → (es : List Endpoint) → Covers t g es → (e : Endpoint) →
    value_within (suc (length es)) t g e ≡ value_at t g e
same_value {t} {g} sound laws es covered e =
    elim (cases_lt (suc (length es)) (enough_fuel t g)) [
      | inl less ↦ sym (stable_from (enough_fuel t g) (suc (length es)) t g (stable_after t g es covered) (omega (arith, less)) e)
      | inr more ↦ stable_from (suc (length es)) (enough_fuel t g) t g (stable_after t g (endpoints t g) (covers (IsLinked-from_sound sound) laws)) more e
    ]

-- each endpoint is among those that are put into a set
kept_one : (ks : List Endpoint) (x e : Endpoint) → Contains ks e → Contains (insert_key same_end ks x) e
kept_one ks x e c = elim (list_any (same_end x) ks) as (λ b. Contains (cond b ks (ks ++ x ∷ [])) e) [ true ↦ c | false ↦ Contains-append_left ks (x ∷ []) e c ]

put_one : (ks : List Endpoint) (x : Endpoint) → Contains (insert_key same_end ks x) x
put_one ks x = by_test (list_any (same_end x) ks) refl
  where
    by_test : (b : Bool) → list_any (same_end x) ks ≡ b → Contains (cond b ks (ks ++ x ∷ [])) x
    by_test true is = let k = list_any_gives (same_end x) ks is in subst (Contains ks) (sym (same_end-is x k.0 k.2)) k.1
    by_test false is = Contains-append_right ks (x ∷ []) x (Contains-head x [])

kept_in : (es ks : List Endpoint) (e : Endpoint) → Contains ks e → Contains (insert_all same_end ks es) e
kept_in [] ks e c = c
kept_in (x ∷ xs) ks e c = kept_in xs (insert_key same_end ks x) e (kept_one ks x e c)

put_in : (es ks : List Endpoint) (e : Endpoint) → Contains es e → Contains (insert_all same_end ks es) e
put_in [] ks e c = Contains-none e c
put_in (x ∷ xs) ks e c =
    elim (Contains-cases x xs e c) [
      | inl is ↦ kept_in xs (insert_key same_end ks x) e (subst (Contains (insert_key same_end ks x)) is (put_one ks x))
      | inr rest ↦ put_in xs (insert_key same_end ks x) e rest
    ]

places_cover : {t : Tables} {g : Graph} → IsSound t g → AreTables t → Covers t g (insert_all same_end [] (endpoints t g))
places_cover {t} {g} sound laws e =
    elim (covers (IsLinked-from_sound sound) laws e) [ inl among ↦ inl (put_in (endpoints t g) [] e among) | inr absent ↦ inr absent ]

table_of : (t : Tables) (g : Graph) (es : List Endpoint) → Covers t g es →
    answers_after (length (map (endpoint_rule t g) es)) t es (map (endpoint_rule t g) es) (map (first_answer_of t) (map (endpoint_rule t g) es)) ≡ map (value_within (suc (length es)) t g) es
table_of t g es covered =
    ap (λ (n : ℕ). answers_after n t es (map (endpoint_rule t g) es) (map (first_answer_of t) (map (endpoint_rule t g) es))) (length-map es (endpoint_rule t g))
    ∙ ap (answers_after (length es) t es (map (endpoint_rule t g) es)) (first_values t g es)
    ∙ rounds (length es) t g es covered zero
    ∙ ap (λ (j : ℕ). map (value_within (suc j) t g) es) (add-zero (length es))

-- what stands in the places after so many rounds is the value
pub table_value : {t : Tables} {g : Graph} → IsSound t g → AreTables t → (es : List Endpoint) → es ≡ insert_all same_end [] (endpoints t g) → (e : Endpoint) →
    known es (answers_after (length (map (endpoint_rule t g) es)) t es (map (endpoint_rule t g) es) (map (first_answer_of t) (map (endpoint_rule t g) es))) e ≡ value_at t g e
table_value {t} {g} sound laws es is e =
    let covered : Covers t g es = subst (Covers t g) (sym is) (places_cover sound laws) in
    ap (λ (as_ : List Answer). known es as_ e) (table_of t g es covered)
    ∙ known_value t g es covered (length es) e
    ∙ same_value sound laws es covered e

-- one item more of a list that is made item by item
pub push_map : {X Y : Type 0} (f : X → Y) (all new : List Y) (xs : List X) (i : ℕ) (d : X) → i < length xs → new ≡ all ++ f (get_or xs i d) ∷ [] →
    new ++ map f (drop (i + 1) xs) ≡ all ++ map f (drop i xs)
push_map {X} {Y} f all new xs i d below is =
    ap (λ (z : List Y). z ++ map f (drop (i + 1) xs)) is
    ∙ append_assoc all (f (get_or xs i d) ∷ []) (map f (drop (i + 1) xs))
    ∙ ap (λ (z : List X). all ++ map f z) (sym (drop_more xs i d below))

-- the same, for a table that was made step by step
pub table_made : {t : Tables} {g : Graph} → IsSound t g → AreTables t → (es : List Endpoint) (qs : List EndpointRule) (first as_ : List Answer) (e : Endpoint) →
    es ≡ insert_all same_end [] (endpoints t g) → qs ≡ map (endpoint_rule t g) es → first ≡ map (first_answer_of t) qs → as_ ≡ answers_after (length qs) t es qs first →
    known es as_ e ≡ value_at t g e
table_made {t} {g} sound laws es qs first as_ e ends asked begun is =
    ap (λ (z : List Answer). known es z e) (is ∙ ap (answers_after (length qs) t es qs) begun)
    ∙ ap (λ (z : List EndpointRule). known es (answers_after (length z) t es z (map (first_answer_of t) z)) e) asked
    ∙ table_value sound laws es ends e

-- one round more
pub one_round : (n r : ℕ) (t : Tables) (es : List Endpoint) (qs : List EndpointRule) (as_ next first : List Answer) → r < n → next ≡ next_answers t (known es as_) qs as_ →
    answers_after (n - r) t es qs as_ ≡ answers_after n t es qs first → answers_after (n - (r + 1)) t es qs next ≡ answers_after n t es qs first
one_round n r t es qs as_ next first below is so_far =
    let left : n - r ≡ suc (n - (r + 1)) = omega arith in
    ap (answers_after (n - (r + 1)) t es qs) is ∙ ap (λ (k : ℕ). answers_after k t es qs as_) (sym left) ∙ so_far

-- no round more
pub no_round : (n r : ℕ) (t : Tables) (es : List Endpoint) (qs : List EndpointRule) (as_ next first : List Answer) → length as_ ≡ length qs → next ≡ next_answers t (known es as_) qs as_ →
    count_by is_cycle next ≡ count_by is_cycle as_ → answers_after (n - r) t es qs as_ ≡ answers_after n t es qs first → as_ ≡ answers_after n t es qs first
no_round n r t es qs as_ next first long is same so_far =
    sym (stays (n - r) t es qs as_ (nothing_settled t (known es as_) qs as_ long (ap (count_by is_cycle) (sym is) ∙ same))) ∙ so_far
