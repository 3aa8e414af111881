-- What answers, arguments and outcomes keep to, and what a production reads of its arguments.
use Rattle.std.proofs.Common.{ℕ, List, Option, Some}
use Rattle.std.specs.Option.{IfSome}
use Rattle.std.specs.Prelude.{slice_get}
use Rattle.dg_base.specs.declared.datum.Datum.{Datum}
use Rattle.dg_base.specs.declared.answer.Answer.{Answer}
use Rattle.dg_base.specs.declared.answer.Answer.TheVariants as answer
use Rattle.dg_base.specs.declared.schema.ArgVal.{ArgVal}
use Rattle.dg_base.specs.declared.schema.ArgVal.TheVariants as arg_val
use Rattle.dg_base.specs.declared.schema.Made.{Made}
use Rattle.dg_base.specs.declared.schema.Made.TheVariants as made
use Rattle.dg_kinds_go.specs.Values.{good_in, value_of, answers_of, value_at, values_at}
use Rattle.dg_build_laws.proofs.Lists.{Each, Each-get, Each-weaker, Each-map}
use Rattle.dg_build_laws.proofs.Kept.{Kept}

-- what holds of a good answer's value
abbrev pub OfGood : (Datum → Type 0) → Answer → Type 0
OfGood P (answer.Good d) = P d
OfGood P _ = Unit {0}

-- and of the value of an outcome
abbrev pub OfMade : (Datum → Type 0) → Made → Type 0
OfMade P (made.Good d) = P d
OfMade P (made.Fault c) = Unit {0}

abbrev pub KeptArg : ArgVal → Type 0
KeptArg (arg_val.One a) = OfGood Kept a
KeptArg (arg_val.Many as_) = Each (OfGood Kept) as_
KeptArg (arg_val.Sub d) = Kept d
KeptArg _ = Unit {0}

good_kept : (a : Answer) → OfGood Kept a → IfSome (good_in a) Kept
good_kept (answer.Good d) h = h
good_kept _ h = tt

value_kept : (o : Option ArgVal) → IfSome o KeptArg → IfSome (value_of o) Kept
value_kept (Some (arg_val.One a)) h = good_kept a h
value_kept (Some (arg_val.Sub d)) h = h
value_kept _ h = tt

answers_kept : (o : Option ArgVal) → IfSome o KeptArg → Each (OfGood Kept) (answers_of o)
answers_kept (Some (arg_val.Many as_)) h = h
answers_kept _ h = tt

module _ (args : List ArgVal) (h : Each KeptArg args) where
  pub value_at_kept : (n : ℕ) → IfSome (value_at args n) Kept
  value_at_kept n = value_kept (slice_get args n) (Each-get KeptArg args n h)

  pub values_at_kept : (n : ℕ) → Each (λ o. IfSome o Kept) (values_at args n)
  values_at_kept n =
      let as_ = answers_of (slice_get args n) in
      Each-map (λ (o : Option Datum). IfSome o Kept) good_in as_
      (Each-weaker (OfGood Kept) (λ a. IfSome (good_in a) Kept) good_kept as_ (answers_kept (slice_get args n) (Each-get KeptArg args n h)))
