use Rattle.std.proofs.Common.{◌≡◌, ◌++◌, drop, map}
use Rattle.dg_base.specs.Chain.{chain}
use Rattle.dg_base.specs.Rule.{arg_rule_of}
use Rattle.dg_reads.proofs.rules.arg_rules.Given as goal

abbrev pub invariant-loop-arg : goal.invariant-loop-arg
invariant-loop-arg g l =
    l.rules.items ++ map (arg_rule_of (g.G.CoreReads.graph l.graph) l.at.node (chain (g.G.CoreReads.graph l.graph) l.at.node)) (drop l.arg-index l.args)
    ≡ map (arg_rule_of (g.G.CoreReads.graph l.graph) l.at.node (chain (g.G.CoreReads.graph l.graph) l.at.node)) l.args
