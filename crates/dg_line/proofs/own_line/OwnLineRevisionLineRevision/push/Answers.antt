use Rattle.std.proofs.Common.{◌≡◌, ◌++◌, ◌∷◌, [], ℕ, zero, suc, length, List, Some, map, slice_get, vec_len, rules, refl, sym, ap, ◌∙◌}
use Rattle.std.proofs.lemmas.List.{length-map, map-append}
use Rattle.std.proofs.lemmas.Option.{slice_get_within}
use Rattle.std.specs.Arc.{arc_value}
use Rattle.dg_line.proofs.own_line.OwnLineRevisionLineRevision.push.Goals as goal

get_front : {X : Type 0} (xs ys : List X) (i : ℕ) (x : X) → slice_get xs i ≡ Some x → slice_get (xs ++ ys) i ≡ Some x
get_front [] ys i x h = search (slice_get_within)
get_front (y ∷ xs) ys zero x h = h
get_front (y ∷ xs) ys (suc i) x h = get_front xs ys i x h

get_last : {X : Type 0} (xs : List X) (x : X) → slice_get (xs ++ x ∷ []) (length xs) ≡ Some x
get_last [] x = refl
get_last (y ∷ xs) x = get_last xs x

-- the line as contracts see it, with one more
seen_pushed : {X Y : Type 0} (see : X → Y) (old kept new : List X) (now : List Y) (x : X) → map see old ≡ now → kept ≡ old → new ≡ kept ++ x ∷ [] → map see new ≡ now ++ see x ∷ []
seen_pushed see old kept new now x is_now is_kept is_new =
    ap (map see) (is_new ∙ ap (λ xs. xs ++ x ∷ []) is_kept) ∙ map-append see old (x ∷ []) ∙ ap (λ ys. ys ++ see x ∷ []) is_now

at_last : {Y : Type 0} (line now : List Y) (i : ℕ) (x y : Y) → line ≡ now ++ x ∷ [] → i ≡ length now → y ≡ x → slice_get line i ≡ Some y
at_last line now i x y is_line is_i is =
    ap (λ l. slice_get l i) is_line ∙ ap (slice_get (now ++ x ∷ [])) is_i ∙ get_last now x ∙ ap Some (sym is)

pub returns-clause-stays : goal.returns-clause-stays
returns-clause-stays g c =
    let is = seen_pushed arc_value c.self.inside.list.items c.reserve.new.self.items c.push_reserved.new.self.items c.args.self.now c.in_ok-kept.kept c.self.view_is c.in_ok-reserve.ensures.items c.push_reserved.ensures.items in
    λ t h. ap (λ l. slice_get l t.index) is ∙ get_front c.args.self.now (arc_value c.in_ok-kept.kept ∷ []) t.index t.revision h

pub returns-clause-of : goal.returns-clause-of
returns-clause-of g c =
    let is = seen_pushed arc_value c.self.inside.list.items c.reserve.new.self.items c.push_reserved.new.self.items c.args.self.now c.in_ok-kept.kept c.self.view_is c.in_ok-reserve.ensures.items c.push_reserved.ensures.items in
    let len : vec_len c.self.inside.list ≡ length c.self.inside.list.items = search rules in
    at_last _ c.args.self.now c.of.result.index (arc_value c.in_ok-kept.kept) c.of.result.revision is
    (ap (λ p. p.index) c.of.ensures ∙ c.len-index.ensures ∙ len ∙ sym (length-map c.self.inside.list.items arc_value) ∙ ap length c.self.view_is)
    (ap (λ p. p.revision) c.of.ensures ∙ search rules)
