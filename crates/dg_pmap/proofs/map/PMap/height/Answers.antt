use Rattle.std.proofs.Common.{◌≡◌, ◌≤◌, length, max, ap, ◌∙◌, sym, arith}
use Rattle.dg_pmap.specs.Shape.{pairs_of}
use Rattle.dg_pmap.specs.Heights.{fewest}
use Rattle.dg_pmap.proofs.Heights.{power-le-fewest}
use Rattle.dg_pmap.proofs.map.PMap.height.Goals as goal

pub returns-in-Some-clause-logarithmic : goal.returns-in-Some-clause-logarithmic
returns-in-Some-clause-logarithmic g c =
    let all : c.deref.result.now.0 ≡ c.args.self.now = ap (λ v. v.0) c.deref.ensures ∙ sym (ap pairs_of c.in-Some.is) ∙ c.self.view_is in
    let filled : fewest c.height.result ≤ length c.args.self.now = rw (c.height.ensures.height, ← all) c.height.ensures.filled in
    omega (arith, power-le-fewest c.height.result)
