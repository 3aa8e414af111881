use Rattle.std.proofs.Common.{◌≡◌, ◌∙◌, Some, ap, sym, subst, IsUtf8}
use Rattle.std.proofs.lemmas.Bool.{false≢true}
use Rattle.std.proofs.lemmas.Str.{IsUtf8-string_bytes}
use Rattle.dg_text.proofs.Utf8Tests.{is_text, no_text}
use Rattle.dg_ptext.proofs.token.text_of.Goals as goal

pub returns-in-Ok : goal.returns-in-Ok
returns-in-Ok c =
    let same : c.in-Ok.text.bytes.items ≡ c.args.bytes = ap (λ v. v.items) c.in-Ok.ensures.ok ∙ c.into_vec.ensures in
    ap Some same ∙ is_text c.args.bytes (subst IsUtf8 same (IsUtf8-string_bytes c.in-Ok.text))

pub returns : goal.returns
returns c = no_text c.args.bytes (λ u. false≢true (c.in-Err.ensures.succeeds (subst IsUtf8 (sym c.into_vec.ensures) u)))
