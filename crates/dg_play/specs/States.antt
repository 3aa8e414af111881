-- What holds of a state of the play at each moment.
use Rattle.std.specs.Prelude.{◌≡◌, ℕ, List, Option, Some, None, Result, Ok, Err, is_some, true}
use Rattle.std.specs.List.{Contains}
use Rattle.dg_asks.specs.Asks.{Ask}
use Rattle.dg_base.specs.declared.ids.Endpoint.{Endpoint}
use Rattle.dg_line.specs.Revisions.{Seen}
use Rattle.dg_play.specs.declared.state.State.{State as CodeState}
use Rattle.dg_play.specs.declared.pins.Pin.{Pin as CodePin}
use Rattle.dg_play.specs.declared.reply.Reply.{Reply as CodeReply}
use Rattle.dg_play.specs.declared.reply.Reply.TheVariants as reply
use Rattle.dg_play.specs.Play.{Reply, Answers, NoPin}
use Rattle.dg_play.specs.Seen.{reply_by}
use Rattle.dg_play.specs.Sessions.{SessionView}

-- one of the pins has a number
pub record HasNumber (ps : List CodePin) (n : ℕ) : Type 0 where
  pub pin : CodePin
  pub among : Contains ps pin
  pub number : pin.number ≡ n

-- these pins are those that are live, each under its number, and their names and numbers differ
pub record AreLive (live : ℕ → Option Seen) (ps : List CodePin) : Type 0 where
  pub live_all : (p : CodePin) → Contains ps p → is_some (live p.number) ≡ true
  pub only : (n : ℕ) → is_some (live n) ≡ true → HasNumber ps n
  pub names : (p q : CodePin) → Contains ps p → Contains ps q → p.number ≡ q.number → p.name ≡ q.name
  pub numbers : (p q : CodePin) → Contains ps p → Contains ps q → p.name ≡ q.name → p.number ≡ q.number

-- the session can be played in, and the pins are those that are live in it
pub record IsPlayed {P : Type 0} (is_ready : P → Type 0) (shows : P → SessionView) (s : CodeState P) : Type 0 where
  pub ready : is_ready s.session
  pub pins : AreLive (shows s.session).live s.pins.items

-- what is said in place of an answer
abbrev pub IsSilent : {A : Type 0} → CodeReply A → Type 0
IsSilent reply.NoName = Unit {0}
IsSilent reply.NoLabel = Unit {0}
IsSilent reply.NoPin = Unit {0}
IsSilent _ = ⊥

-- the answer that a question gets at a revision, or what is said in place of one
abbrev pub endpoint_reply : {A : Type 0} → (A → Ask) → Option Seen → Result Endpoint (CodeReply A) → Reply
endpoint_reply asked (Some r) (Ok e) = Answers (record { revision = r; at = e })
endpoint_reply asked None (Ok e) = NoPin
endpoint_reply asked o (Err said) = reply_by asked said
