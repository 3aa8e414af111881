-- Commands beside their lines, one after another.
use Rattle.std.proofs.Common.{◌≡◌, ◌∙◌, ℕ, ◌+◌, ◌<◌, ◌≤◌, List, [], ◌∷◌, map, drop, length, get_or, zip, cond, refl}
use Rattle.std.proofs.lemmas.List.{at_drop_more, at_drop_all}
use Rattle.std.proofs.lemmas.List.Sums.{sum_by-cons}
use Rattle.dg_asks.specs.Asks.{Ask}
use Rattle.dg_script.specs.declared.command.Command.{Command}
use Rattle.dg_play.specs.declared.reply.Line.{Line as CodeLine}
use Rattle.dg_play.specs.Play.{Line}
use Rattle.dg_play.specs.Seen.{line_of}
use Rattle.dg_sums.specs.declared.counts.Deed.{Deed}
use Rattle.dg_sums.specs.Counts.{is_deed, deeds_in}

module _ (d : Deed) where
  -- the turn at a place, and those behind it
  pub deeds_more : (cs : List Command) (ls : List (CodeLine Ask)) (i : ℕ) (c : Command) (l : CodeLine Ask) → i < length cs → i < length ls →
      deeds_in d (drop i cs) (map line_of (drop i ls))
      ≡ cond (is_deed d (get_or cs i c, line_of (get_or ls i l))) 1 0 + deeds_in d (drop (i + 1) cs) (map line_of (drop (i + 1) ls))
  deeds_more cs ls i c l in_commands in_lines =
      at_drop_more (λ (x : List Command). deeds_in d x (map line_of (drop i ls))) cs i c in_commands
      ∙ at_drop_more (λ (x : List (CodeLine Ask)). deeds_in d (get_or cs i c ∷ drop (i + 1) cs) (map line_of x)) ls i l in_lines
      ∙ sum_by-cons (λ (t : Command × Line). cond (is_deed d t) 1 0) (get_or cs i c, line_of (get_or ls i l)) (zip (drop (i + 1) cs) (map line_of (drop (i + 1) ls)))

  deeds-no_line : (cs : List Command) → deeds_in d cs [] ≡ 0
  deeds-no_line [] = refl
  deeds-no_line (c ∷ cs) = refl

  pub deeds-all_lines : (cs : List Command) (ls : List (CodeLine Ask)) (i : ℕ) → length ls ≤ i → deeds_in d cs (map line_of (drop i ls)) ≡ 0
  deeds-all_lines cs ls i end = at_drop_all (λ (x : List (CodeLine Ask)). deeds_in d cs (map line_of x)) ls i end ∙ deeds-no_line cs
