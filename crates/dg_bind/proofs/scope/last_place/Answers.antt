use Rattle.std.proofs.Common.{◌≡◌, ◌+◌, ◌-◌, ◌<◌, ◌∙◌, None, true, ap, sym, rules, arith, length, get_or, drop}
use Rattle.std.specs.Str.{bytes_eq}
use Rattle.dg_bind.specs.Scope.{last_place}
use Rattle.dg_bind.proofs.LastPlaces.{place_at}
use Rattle.dg_bind.proofs.scope.last_place.Goals as goal

pub returns-then-eq : goal.returns-then-eq
returns-then-eq c =
    let back : c.loop-end.end - 1 + 1 ≡ c.loop-end.end = omega arith in
    let lt : c.loop-end.end - 1 < length c.args.names.now = omega (arith, c.loop-end.invariant.1) in
    let same : bytes_eq c.args.name.now c.index-names-end.result ≡ true = search rules in
    let at : bytes_eq c.args.name.now (get_or c.args.names.now (c.loop-end.end - 1) c.index-names-end.result) ≡ true =
    ap (bytes_eq c.args.name.now) (sym c.index-names-end.is) ∙ same in
    let none : last_place (drop (c.loop-end.end - 1 + 1) c.args.names.now) c.args.name.now ≡ None =
    ap (λ n. last_place (drop n c.args.names.now) c.args.name.now) back ∙ c.loop-end.invariant.0 in
    sym (place_at c.args.names.now (c.loop-end.end - 1) c.index-names-end.result c.args.name.now lt at none)
