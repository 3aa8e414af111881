use Rattle.std.proofs.Common.{◌≡◌, ◌∙◌, Bool, true, false, List, [], map, refl, sym, ap, subst, string_bytes, Result, Ok, Err}
use Rattle.std.proofs.lemmas.Bool.{and_parts}
use Rattle.clap.specs.Walk.{Row, rows_of}
use Rattle.clap.specs.Simple.{app_of, built, is_simple, matches_of}
use Rattle.clap.specs.Matches.{found_of}
use Rattle.clap.specs.Faults.{fault_of, is_free_app}
use Rattle.clap.specs.Values.{kind_of}
use Rattle.dg_base.specs.Refusal.{Gives}
use Rattle.dg_base.specs.declared.refusal.Refusal.{Refusal}
use Rattle.dg_words.specs.declared.task.Usage.{Usage}
use Rattle.dg_words.specs.Paths.{checked}
use Rattle.dg_words.specs.Grammar.{has_short}
use Rattle.dg_words.specs.declared.texts.Texts.{Texts}
use Rattle.dg_words.specs.Texts.{Given, seen}
use Rattle.dg_words.specs.Commands.{found_in, is_taken, parsed_by}
use Rattle.dg_words.proofs.Refusing.{refused_as}
use Rattle.dg_words.proofs.texts.read_texts.Goals as goal

pub returns-in-Ok : goal.returns-in-Ok
returns-in-Ok c =
    let app = app_of c.args.command in
    let words = map string_bytes c.args.words.now in
    let simple : is_simple app ≡ true = (and_parts (is_simple app) (is_free_app (built app)) c.requires).0 in
    let short : has_short words ≡ false = sym c.has_short.ensures ∙ c.if-has_short.false in
    let fits : fault_of app words ≡ [] = c.in-Ok.ensures.kinds c.requires in
    let same : rows_of (found_of c.in-Ok.matches) ≡ matches_of app words = (c.in-Ok.ensures.matches simple).0 in
    let taken : is_taken app words ≡ true = rw (short, fits) refl in
    let as_given : List Row → Result Given Usage = λ rows. Ok (found_in rows) in
    let as_ok : Given → Result Given Usage = λ given. Ok given in
    ap (λ (b : Bool). checked b (found_in (matches_of app words))) taken ∙ ap as_given (sym same) ∙ ap as_ok (sym c.texts_of.ensures)

pub returns-in-Err : goal.returns-in-Err
returns-in-Err c =
    let app = app_of c.args.command in
    let words = map string_bytes c.args.words.now in
    let short : has_short words ≡ false = sym c.has_short.ensures ∙ c.if-has_short.false in
    let refused = refused_as (fault_of app words) (kind_of c.in-Err.error) (found_in (matches_of app words)) (c.in-Err.ensures.kinds c.requires) in
    subst (λ (r : Refusal Usage). Gives {X = Texts} {Y = Given} {C = Usage} seen (Err r) (parsed_by app words)) (sym c.refusal_of.ensures) (rw short refused)
