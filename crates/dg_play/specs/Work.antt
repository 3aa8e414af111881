-- The shared cache of a run, and the work that the play of a script does with it: each edit that is accepted is
-- followed, and each answer that is asked for is evaluated with what the cache knows, and offered to it once.
use Rattle.std.specs.Prelude.{ℕ, ◌+◌, ◌-◌, ◌==◌, List, [], ◌∷◌, ◌++◌, cond, length, min}
use Rattle.dg_base.specs.Tables.{Tables}
use Rattle.dg_base.specs.Graph.{Graph}
use Rattle.dg_base.specs.Evaluation.{Evaluated, productions, cached_outputs}
use Rattle.dg_cache.specs.declared.entry.Entry.{Entry}
use Rattle.dg_cache.specs.Entries.{in_order, put_all, touched}
use Rattle.dg_cache.specs.Caches.{evicted}
use Rattle.dg_line.specs.Revisions.{Seen}
use Rattle.dg_desk.specs.Machine.{unchanged}
use Rattle.dg_world.specs.Steps.{walk_of, valued}
use Rattle.dg_script.specs.declared.command.Command.{Command}
use Rattle.dg_script.specs.declared.command.Act.{Act}
use Rattle.dg_script.specs.declared.command.Act.TheVariants as act
use Rattle.dg_asks.specs.Asks.{Ask}
use Rattle.dg_play.specs.Play.{State, Reply, Answers, Builds, Turn, turn_of}

-- the entries of the cache, most recent first; how many productions were made, how many entries of what was offered
-- were kept, and how many came late; the answers that were evaluated, and how many evictions there were
pub record Work : Type 0 where
  pub entries : List Entry
  pub made : ℕ
  pub kept : ℕ
  pub late : ℕ
  pub asks : List Ask
  pub evictions : ℕ

abbrev pub no_work : Work
no_work = record { entries = []; made = 0; kept = 0; late = 0; asks = []; evictions = 0 }

abbrev pub with_entries : Work → List Entry → Work
with_entries w es = record { entries = es; made = w.made; kept = w.kept; late = w.late; asks = w.asks; evictions = w.evictions }

-- from a revision to a later one: the entries whose counters are the same stay
abbrev pub moved_on : Seen → Seen → Work → Work
moved_on before now w = with_entries w (unchanged before now w.entries)

-- ---- an answer that is asked for

-- the cache is known at the current revision alone
abbrev pub known_at : Seen → Seen → List Entry → List Entry
known_at now r es = cond (now.number == r.number) (in_order es) []

-- what a walk offers: the cached outputs that it evaluated, with their values
abbrev pub offered : Tables → Graph → Evaluated → List Entry
offered t g walk = valued t g (cached_outputs t g walk.listed)

-- what is offered of a revision is kept where its counter is the same now, and late otherwise
abbrev pub published : Tables → ℕ → Seen → Ask → Evaluated → List Entry → Work → Work
published t capacity now a walk kept w = record {
  entries = put_all capacity kept (touched walk.hits w.entries);
  made = w.made + productions t a.revision.graph walk.listed;
  kept = w.kept + length kept;
  late = w.late + (length (offered t a.revision.graph walk) - length kept);
  asks = w.asks ++ a ∷ [];
  evictions = w.evictions;
}

abbrev pub after_walk : Tables → ℕ → Seen → Ask → Evaluated → Work → Work
after_walk t capacity now a walk w = published t capacity now a walk (unchanged a.revision now (offered t a.revision.graph walk)) w

abbrev pub after_ask : Tables → ℕ → Seen → Ask → Work → Work
after_ask t capacity now a w = after_walk t capacity now a (walk_of t a.revision.graph (known_at now a.revision w.entries) a.at) w

abbrev pub after_reply : Tables → ℕ → Seen → Reply → Work → Work
after_reply t capacity now (Answers a) w = after_ask t capacity now a w
after_reply t capacity now (Builds a) w = after_ask t capacity now a w
after_reply t capacity now _ w = w

-- ---- an eviction: so many entries go, or all where there are fewer

abbrev pub after_evict : ℕ → Work → Work
after_evict most w = record {
  entries = evicted (min most (length w.entries)) w.entries;
  made = w.made;
  kept = w.kept;
  late = w.late;
  asks = w.asks;
  evictions = w.evictions + 1;
}

-- ---- commands

-- the work of a command, by the revisions before and after it, and by what it prints
abbrev pub after_turn : Tables → ℕ → Seen → Act → Turn → Work → Work
after_turn t capacity before (act.Ask pin at) turn w = after_reply t capacity before turn.reply w
after_turn t capacity before (act.Build node) turn w = after_reply t capacity before turn.reply w
after_turn t capacity before (act.Evict most) turn w = after_evict most w
after_turn t capacity before _ turn w = moved_on before turn.state.editor.now w

abbrev pub worked_on : Tables → ℕ → List Command → State → Work → Work
worked_on t capacity [] s w = w
worked_on t capacity (c ∷ cs) s w = worked_on t capacity cs (turn_of t s c.act).state (after_turn t capacity s.editor.now c.act (turn_of t s c.act) w)

-- the work of a script, from an empty cache
abbrev pub work_of : Tables → ℕ → List Command → State → Work
work_of t capacity cs s = worked_on t capacity cs s no_work
