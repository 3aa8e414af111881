-- What an error of a parse comes to.
use Rattle.std.proofs.Common.{◌≡◌, ◌⊎◌, inl, inr, refl, sym, subst, [], ◌∷◌, Err}
use Rattle.clap.specs.Kinds.{IsAmong, Kinds}
use Rattle.clap.specs.declared.error.kind.ErrorKind.{ErrorKind}
use Rattle.clap.specs.declared.error.kind.ErrorKind.TheVariants as kind
use Rattle.dg_base.specs.Refusal.{Gives}
use Rattle.dg_words.specs.declared.task.Usage.{Usage}
use Rattle.dg_words.specs.declared.texts.Texts.{Texts}
use Rattle.dg_words.specs.Paths.{checked, usage}
use Rattle.dg_words.specs.Texts.{Given, seen}
use Rattle.dg_words.specs.Commands.{is_none, refusal_by}

usage_as : (k : ErrorKind) → Gives {X = Texts} {Y = Given} {C = Usage} seen (Err (refusal_by k)) usage
usage_as kind.OutOfMemory = tt
usage_as _ = refl

-- words are refused where a fault is among their kinds, or memory is refused
pub refused_as : (kinds : Kinds) (k : ErrorKind) (given : Given) → (k ≡ kind.OutOfMemory) ⊎ IsAmong k kinds →
    Gives {X = Texts} {Y = Given} {C = Usage} seen (Err (refusal_by k)) (checked (is_none kinds) given)
refused_as kinds k given (inl memory) =
    subst (λ (e : ErrorKind). Gives {X = Texts} {Y = Given} {C = Usage} seen (Err (refusal_by e)) (checked (is_none kinds) given)) (sym memory) tt
refused_as [] k given (inr among) = absurd among
refused_as (x ∷ xs) k given (inr among) = usage_as k
