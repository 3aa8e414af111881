-- What deeds that are done, and a put of all lines, say of a whole run.
use Rattle.std.proofs.Common.{◌≡◌, true, true≢false, ◌⊎◌, List, ℕ, [], ◌∷◌, ◌++◌, map, Option, Some, None, refl, sym, ap, ◌∙◌, subst, inl, inr, arith, take, zero, suc, ◌+◌, ◌-◌, ◌^◌, ◌≤◌, le_trans}
use Rattle.std.proofs.Math.Nat.{le-min, min-le_left, min-le_right}
use Rattle.std.proofs.lemmas.List.{append-nil}
use Rattle.std.specs.Prelude.{Result, Ok, Err, IfOk}
use Rattle.std.specs.Option.{option_map}
use Rattle.dg_base.specs.Tables.{Tables}
use Rattle.dg_base.specs.declared.refusal.Refusal.{Refusal}
use Rattle.dg_base.specs.declared.refusal.Refusal.TheVariants as refusal
use Rattle.dg_deeds.specs.declared.deed.Deed.{Deed}
use Rattle.dg_deeds.specs.declared.deed.Deed.TheVariants.{Put}
use Rattle.dg_deeds.specs.declared.deed.Stop.{Stop}
use Rattle.dg_deeds.specs.declared.deed.Stop.TheVariants as stop
use Rattle.dg_deeds.specs.Deeds.{IsBegun, IsUntouched, text_after, tree_after}
use Rattle.dg_deeds.specs.Printed.{GotAll, GotPrefix, text_of}
use Rattle.dg_deeds.proofs.Parts.{IsBegun-line, IsBegun-lines, IsBegun-lines-fault, text_after-lines, lines_in-lines, tree_after-lines}
use Rattle.dg_files.specs.Outcome.{Rose}
use Rattle.dg_files.specs.Tree.{Tree}
use Rattle.dg_tool.specs.declared.status.Status.{Status}
use Rattle.dg_tool.specs.declared.status.Status.TheVariants as status
use Rattle.dg_tool.specs.declared.halt.Halt.{Halt}
use Rattle.dg_tool.specs.declared.halt.Halt.TheVariants as halt
use Rattle.dg_tool.specs.declared.due.Output.{Output}
use Rattle.dg_tool.specs.Halts.{IsDue, code_of, cut_status, halt_lines, is_end, status_of}
use Rattle.dg_words.specs.declared.task.Task.{Task}
use Rattle.dg_words.specs.declared.task.Task.TheVariants.{Run, Check, Build, Gen, Format}
use Rattle.dg_words.specs.declared.task.Usage.{Usage}
use Rattle.dg_tool.specs.Input.{Start}
use Rattle.dg_tool.specs.Out.{Doing, Misuse, Out, Plays, Tells, WritesNothing, halted, only_lines}
use Rattle.dg_tool.specs.Seen.{deeds_of}
use Rattle.dg_tool.specs.Statement.{AreDone, EndsAs, IfSomeOf, IsDeskOfDoing, IsDeskOfStart, NeedsNoFiles, IsOutput, IsPut, IsRefused}

-- ---- statuses

no_cut_due : (s : Stop) → IsDue (cut_status s) → ⊥
no_cut_due stop.FileFault d = d
no_cut_due stop.SinkFault d = d
no_cut_due stop.NoMemory d = d

not_usage-cut : (s : Stop) → status.Usage ≡ cut_status s → ⊥
not_usage-cut s is = no_cut_due s (subst IsDue is tt)

-- where all is done
pub end_due : {D : Type 0} (s : Status) (desk : Option D) → is_end s desk ≡ true → IsDue s
end_due status.Done desk end = tt
end_due status.Usage desk end = tt
end_due status.NoInput desk end = absurd (true≢false (sym end))
end_due status.Syntax desk end = absurd (true≢false (sym end))
end_due status.FileFault desk end = absurd (true≢false (sym end))
end_due status.SinkFault desk end = absurd (true≢false (sym end))
end_due status.NoMemory desk end = absurd (true≢false (sym end))
end_due status.TooLarge desk end = absurd (true≢false (sym end))

pub end_no_desk : {D : Type 0} (s : Status) (desk : Option D) → is_end s desk ≡ true → (s ≡ status.Done → ⊥) → desk ≡ None
end_no_desk status.Done desk end not_done = absurd (not_done refl)
end_no_desk status.Usage None end not_done = refl
end_no_desk status.Usage (Some d) end not_done = absurd (true≢false (sym end))
end_no_desk status.NoInput desk end not_done = absurd (true≢false (sym end))
end_no_desk status.Syntax desk end not_done = absurd (true≢false (sym end))
end_no_desk status.FileFault desk end not_done = absurd (true≢false (sym end))
end_no_desk status.SinkFault desk end not_done = absurd (true≢false (sym end))
end_no_desk status.NoMemory desk end not_done = absurd (true≢false (sym end))
end_no_desk status.TooLarge desk end not_done = absurd (true≢false (sym end))

-- a status tells why a run was cut off
abbrev stop_of : Status → Stop
stop_of status.FileFault = stop.FileFault
stop_of status.SinkFault = stop.SinkFault
stop_of _ = stop.NoMemory

stop_of-cut : (s : Stop) → stop_of (cut_status s) ≡ s
stop_of-cut stop.FileFault = refl
stop_of-cut stop.SinkFault = refl
stop_of-cut stop.NoMemory = refl

one_stop : (s r : Stop) → cut_status s ≡ cut_status r → s ≡ r
one_stop s r is = sym (stop_of-cut s) ∙ ap stop_of is ∙ stop_of-cut r

-- no lines are due, and none are put
got_none : (before now : Option (List ℕ)) → GotAll before now [] → now ≡ before
got_none None now all = all
got_none (Some bytes) now all = all ∙ ap Some (append-nil bytes)

none_of_none : (n : ℕ) → take {A = ℕ} n [] ≡ []
none_of_none zero = refl
none_of_none (suc n) = refl

prefix_of_none : (before now : Option (List ℕ)) → GotPrefix before now [] → now ≡ before
prefix_of_none before now part = got_none before now (subst (GotAll before now) (none_of_none part.0) part.1)

-- the statuses of what ends a run before its first line
abbrev Halts : Status → Type 0
Halts status.NoInput = Unit {0}
Halts status.Syntax = Unit {0}
Halts status.FileFault = Unit {0}
Halts status.TooLarge = Unit {0}
Halts _ = ⊥

halts : (h : Halt) → Halts (status_of h)
halts halt.NoInput = tt
halts (halt.BadLine line code) = tt
halts (halt.BadFile line code) = tt
halts (halt.TooLarge what) = tt
halts halt.FileFault = tt

not_usage : (h : Halt) → status_of h ≡ status.Usage → ⊥
not_usage h is = subst Halts is (halts h)

not_done : (h : Halt) → status_of h ≡ status.Done → ⊥
not_done h is = subst Halts is (halts h)

not_sink_fault : (h : Halt) → status_of h ≡ status.SinkFault → ⊥
not_sink_fault h is = subst Halts is (halts h)

is_file_fault : (h : Halt) → status_of h ≡ status.FileFault → h ≡ halt.FileFault
is_file_fault halt.NoInput is = absurd (omega (arith, ap code_of is))
is_file_fault (halt.BadLine line code) is = absurd (omega (arith, ap code_of is))
is_file_fault (halt.BadFile line code) is = absurd (omega (arith, ap code_of is))
is_file_fault (halt.TooLarge what) is = absurd (omega (arith, ap code_of is))
is_file_fault halt.FileFault is = refl

-- a count that rose goes on to be above, and rose behind what is no greater
pub rose-before : (a b c : ℕ) → Rose a b → b ≤ c → Rose a c
rose-before a b c rose le = le_trans rose le

pub rose-after : (a b c : ℕ) → a ≤ b → Rose b c → Rose a c
rose-after a b c le rose =
    let more : a + 1 ≤ b + 1 = omega (arith, le) in
    le_trans (le-min (le_trans (min-le_left (a + 1) (2 ^ 64 - 1)) more) (min-le_right (a + 1) (2 ^ 64 - 1))) rose

-- ---- lines alone

tree_told : (lines : List (List ℕ)) (tree : Option Tree) → option_map (tree_after (map Put lines)) tree ≡ tree
tree_told lines None = refl
tree_told lines (Some tree) = ap Some (tree_after-lines lines tree)

text_told : (lines : List (List ℕ)) (text : Option (List ℕ)) → option_map (text_after (map Put lines)) text ≡ option_map (λ bytes. bytes ++ text_of lines) text
text_told lines None = refl
text_told lines (Some text) = ap Some (text_after-lines (map Put lines) text ∙ ap (λ (ls : List (List ℕ)). text ++ text_of ls) (lines_in-lines lines))

-- a put that is cut off, as a stop
put_stop : {ended : Status} → (ended ≡ status.SinkFault) ⊎ (ended ≡ status.NoMemory) → (s : Stop) × (ended ≡ cut_status s) × (s ≡ stop.FileFault → ⊥)
put_stop (inl is) = (stop.SinkFault, is, λ e. omega (arith, ap code_of (ap cut_status e)))
put_stop (inr is) = (stop.NoMemory, is, λ e. omega (arith, ap code_of (ap cut_status e)))

module _ (ended : Status) (tree tree_now : Option Tree) (same : tree_now ≡ tree) (before now : Option (List ℕ)) where
  -- one line that is put, as deeds that are done
  pub line_done : (due : Status) (line : List ℕ) → IsPut due (line ∷ []) ended before now → AreDone due (map Put (line ∷ [])) ended tree tree_now before now
  line_done due line (inl all) =
      inl (all.0, same ∙ sym (tree_told (line ∷ []) tree), all.1 ∙ sym (text_told (line ∷ []) before))
  line_done due line (inr part) =
      let s = put_stop part.0 in
      inr (s.0, s.1, IsBegun-line s.0 s.2 line tree tree_now before now same (subst (GotPrefix before now) (append-nil line) part.1))

-- ---- deeds

module _ (ended : Status) (tree tree_now : Option Tree) (before now : Option (List ℕ)) where
  -- a run ends as its deeds
  pub deeds_end : (due : Out) → IsDue due.status → AreDone due.status due.deeds ended tree tree_now before now → EndsAs due ended tree tree_now before now
  deeds_end due is (inl all) = record {
    done = λ d. record { status_due = all.0; files_due = all.1; text_due = all.2 };
    cut_off = λ s cut. absurd (no_cut_due s (subst IsDue (sym all.0 ∙ cut) is));
  }
  deeds_end due is (inr part) = record {
    done = λ d. absurd (no_cut_due part.0 (subst IsDue part.1 d));
    cut_off = λ s cut. inr (subst (λ r. IsBegun r due.deeds tree tree_now before now) (one_stop part.0 s (sym part.1 ∙ cut)) part.2);
  }

  -- nothing is done of what is due
  pub nothing_ends : (due : Out) (s : Stop) → ended ≡ cut_status s → IsUntouched tree tree_now before now → EndsAs due ended tree tree_now before now
  nothing_ends due s is same = record {
    done = λ d. absurd (no_cut_due s (subst IsDue is d));
    cut_off = λ r cut. inl same;
  }

  module _ {D : Type 0} (t : Tables) (due : Out) (o : Output D) (told : IsOutput t (Ok o) due) (done : AreDone o.status (deeds_of t o) ended tree tree_now before now) where
    pub done_ends : EndsAs due ended tree tree_now before now
    done_ends =
        deeds_end due (subst IsDue (sym told.0) (end_due o.status o.desk o.end))
        (subst (λ s. AreDone s due.deeds ended tree tree_now before now) (sym told.0) (subst (λ (ds : List Deed). AreDone o.status ds ended tree tree_now before now) (sym told.1) done))

  -- lines alone are never cut off by a fault of the files
  pub lines_no_fault : (due : Status) → IsDue due → (lines : List (List ℕ)) → AreDone due (map Put lines) ended tree tree_now before now → ended ≡ status.FileFault → ⊥
  lines_no_fault due is_due lines (inl all) failed = subst IsDue (sym all.0 ∙ failed) is_due
  lines_no_fault due is_due lines (inr part) failed =
      IsBegun-lines-fault lines tree tree_now before now
      (subst (λ s. IsBegun s (map Put lines) tree tree_now before now) (one_stop part.0 stop.FileFault (sym part.1 ∙ failed)) part.2)

-- ---- a run that ended before

-- what is put of it
nothing_got : {s : Status} (ended : Status) (before now : Option (List ℕ)) → IsPut s [] ended before now → now ≡ before
nothing_got ended before now (inl all) = got_none before now all.1
nothing_got ended before now (inr part) = prefix_of_none before now part.1

module _ (ended : Status) (before now : Option (List ℕ)) where
  -- a status that isn't that of the sink or of want of memory
  not_cut : (P : Status → Type 0) → (P status.SinkFault → ⊥) → (P status.NoMemory → ⊥) → (ended ≡ status.SinkFault) ⊎ (ended ≡ status.NoMemory) → P ended → ⊥
  not_cut P not_sink not_memory (inl is) p = not_sink (subst P is p)
  not_cut P not_sink not_memory (inr is) p = not_memory (subst P is p)

  pub put_not_usage : (h : Halt) → IsPut (status_of h) (halt_lines h) ended before now → ended ≡ status.Usage → ⊥
  put_not_usage h (inl all) is = not_usage h (sym all.0 ∙ is)
  put_not_usage h (inr part) is = not_cut (λ s. s ≡ status.Usage) (λ s. omega (arith, ap code_of s)) (λ s. omega (arith, ap code_of s)) part.0 is

  pub put_not_done : (h : Halt) → IsPut (status_of h) (halt_lines h) ended before now → ended ≡ status.Done → ⊥
  put_not_done h (inl all) is = not_done h (sym all.0 ∙ is)
  put_not_done h (inr part) is = not_cut (λ s. s ≡ status.Done) (λ s. omega (arith, ap code_of s)) (λ s. omega (arith, ap code_of s)) part.0 is

  pub put_file_fault : (h : Halt) → IsPut (status_of h) (halt_lines h) ended before now → ended ≡ status.FileFault → h ≡ halt.FileFault
  put_file_fault h (inl all) is = is_file_fault h (sym all.0 ∙ is)
  put_file_fault h (inr part) is =
      absurd (not_cut (λ s. s ≡ status.FileFault) (λ s. omega (arith, ap code_of s)) (λ s. omega (arith, ap code_of s)) part.0 is)

  -- where the files failed, nothing was put
  pub nothing_put : (h : Halt) → IsPut (status_of h) (halt_lines h) ended before now → ended ≡ status.FileFault → now ≡ before
  nothing_put h put is =
      let failed = put_file_fault h put is in
      nothing_got ended before now (subst (λ k. IsPut (status_of k) (halt_lines k) ended before now) failed put)

  module _ (tree tree_now : Option Tree) (same : tree_now ≡ tree) where
    halt_ends : (due : Out) (h : Halt) (line : List ℕ) → due ≡ halted h → IsDue (status_of h) → halt_lines h ≡ line ∷ [] → IsPut (status_of h) (halt_lines h) ended before now →
        EndsAs due ended tree tree_now before now
    halt_ends due h line is d one put =
        subst (λ (o : Out). EndsAs o ended tree tree_now before now) (sym (is ∙ ap (only_lines (status_of h)) one))
        (deeds_end ended tree tree_now before now (only_lines (status_of h) (line ∷ [])) d
        (line_done ended tree tree_now same before now (status_of h) line (subst (λ (ls : List (List ℕ)). IsPut (status_of h) ls ended before now) one put)))

    pub halted_ends : (D : Type 0) (t : Tables) (due : Out) (h : Halt) → IsOutput {D = D} t (Err (refusal.Because h)) due → IsPut (status_of h) (halt_lines h) ended before now →
        EndsAs due ended tree tree_now before now
    halted_ends D t due halt.NoInput is put = halt_ends due halt.NoInput _ is tt refl put
    halted_ends D t due (halt.BadLine line code) is put = halt_ends due (halt.BadLine line code) _ is tt refl put
    halted_ends D t due (halt.BadFile line code) is put = halt_ends due (halt.BadFile line code) _ is tt refl put
    halted_ends D t due (halt.TooLarge what) is put = halt_ends due (halt.TooLarge what) _ is tt refl put
    halted_ends D t due halt.FileFault is (inl all) =
        nothing_ends ended tree tree_now before now due stop.FileFault all.0 (same, nothing_got ended before now (inl all))
    halted_ends D t due halt.FileFault is (inr part) =
        let s = put_stop part.0 in
        nothing_ends ended tree tree_now before now due s.0 s.1 (same, prefix_of_none before now part.1)

    -- words that say no task
    pub usage_ends : (line : List ℕ) → IsPut status.Usage (line ∷ []) ended before now → EndsAs (only_lines status.Usage (line ∷ [])) ended tree tree_now before now
    usage_ends line put =
        deeds_end ended tree tree_now before now (only_lines status.Usage (line ∷ [])) tt (line_done ended tree tree_now same before now status.Usage line put)

-- the status is the one that is due, where neither the files nor the sink failed, or memory was wanted
halted_status : (D : Type 0) (t : Tables) (due : Out) (h : Halt) → IsOutput {D = D} t (Err (refusal.Because h)) due → (h ≡ halt.FileFault → ⊥) → status_of h ≡ due.status
halted_status D t due halt.NoInput is failed = ap (λ (o : Out). o.status) (sym is)
halted_status D t due (halt.BadLine line code) is failed = ap (λ (o : Out). o.status) (sym is)
halted_status D t due (halt.BadFile line code) is failed = ap (λ (o : Out). o.status) (sym is)
halted_status D t due (halt.TooLarge what) is failed = ap (λ (o : Out). o.status) (sym is)
halted_status D t due halt.FileFault is failed = absurd (failed refl)

pub halted_complete : (D : Type 0) (t : Tables) (due : Out) (h : Halt) (ended : Status) (before now : Option (List ℕ)) → IsOutput {D = D} t (Err (refusal.Because h)) due →
    IsPut (status_of h) (halt_lines h) ended before now → (h ≡ halt.FileFault → ⊥) → (ended ≡ status.SinkFault → ⊥) → (ended ≡ due.status) ⊎ (ended ≡ status.NoMemory)
halted_complete D t due h ended before now is (inl all) files sink = inl (all.0 ∙ halted_status D t due h is files)
halted_complete D t due h ended before now is (inr part) files sink = wants part.0 where
  wants : (ended ≡ status.SinkFault) ⊎ (ended ≡ status.NoMemory) → (ended ≡ due.status) ⊎ (ended ≡ status.NoMemory)
  wants (inl s) = absurd (sink s)
  wants (inr m) = inr m

-- a fault of the sink has a cause
pub sink_failed : (h : Halt) {Rises : Type 0} → (status_of h ≡ status.SinkFault) ⊎ Rises → Rises
sink_failed h (inl is) = absurd (not_sink_fault h is)
sink_failed h (inr rises) = rises

-- ---- refusals

module _ (D : Type 0) (t : Tables) (due : Out) (ended : Status) (before now : Option (List ℕ)) where
  pub refused_ends : (e : Refusal Halt) (tree : Option Tree) → IsOutput {D = D} t (Err e) due → IsRefused e ended before now → EndsAs due ended tree tree before now
  refused_ends (refusal.Because h) tree is put = halted_ends ended before now tree tree refl D t due h is put
  refused_ends refusal.NoMemory tree is put = nothing_ends ended tree tree before now due stop.NoMemory put.0 (refl, put.1)

  pub refused_complete : (e : Refusal Halt) → IsOutput {D = D} t (Err e) due → IsRefused e ended before now → (e ≡ refusal.Because halt.FileFault → ⊥) → (ended ≡ status.SinkFault → ⊥) →
      (ended ≡ due.status) ⊎ (ended ≡ status.NoMemory)
  refused_complete (refusal.Because h) is put files sink = halted_complete D t due h ended before now is put (λ f. files (ap refusal.Because f)) sink
  refused_complete refusal.NoMemory is put files sink = inr put.0

module _ (ended : Status) (before now : Option (List ℕ)) where
  pub refused_not_done : (e : Refusal Halt) → IsRefused e ended before now → ended ≡ status.Done → ⊥
  refused_not_done (refusal.Because h) put is = put_not_done ended before now h put is
  refused_not_done refusal.NoMemory put is = omega (arith, ap code_of (sym put.0 ∙ is))

  pub refused_not_usage : (e : Refusal Halt) → IsRefused e ended before now → ended ≡ status.Usage → ⊥
  refused_not_usage (refusal.Because h) put is = put_not_usage ended before now h put is
  refused_not_usage refusal.NoMemory put is = omega (arith, ap code_of (sym put.0 ∙ is))

  pub refused_file_fault : (e : Refusal Halt) → IsRefused e ended before now → ended ≡ status.FileFault → e ≡ refusal.Because halt.FileFault
  refused_file_fault (refusal.Because h) put is = ap refusal.Because (put_file_fault ended before now h put is)
  refused_file_fault refusal.NoMemory put is = absurd (omega (arith, ap code_of (sym put.0 ∙ is)))

  pub refused_nothing : (e : Refusal Halt) → IsRefused e ended before now → ended ≡ status.FileFault → now ≡ before
  refused_nothing (refusal.Because h) put is = nothing_put ended before now h put is
  refused_nothing refusal.NoMemory put is = put.1

-- ---- what a run does, and what it leaves

-- a count rose in the first part or in the second
pub rose_both : {Fails : Type 0} (a b c : ℕ) → a ≤ b → b ≤ c → (Fails → Rose a b) → Fails ⊎ Rose b c → Rose a c
rose_both a b c first second failed (inl fails) = rose-before a b c (failed fails) second
rose_both a b c first second failed (inr rose) = rose-after a b c first rose

pub of_some : {X E G : Type 0} (r : Result X E) (P Q : X → Type 0) → IfSomeOf r P → IfOk r Q → ((x : X) → P x → Q x → G) → G
of_some (Ok x) P Q p q f = f x p q
of_some (Err e) P Q p q f = absurd p

pub needs_none : (w : Result Task Usage) → NeedsNoFiles w → WritesNothing w
needs_none (Ok (Run script workers cache stats)) none = absurd none
needs_none (Ok Check) none = absurd none
needs_none (Ok (Build path workers)) none = absurd none
needs_none (Ok (Gen seed size workers cache)) none = tt
needs_none (Ok (Format path)) none = absurd none
needs_none (Err e) none = tt

-- the desk of a run, as one of the tool
start_desk : {D E : Type 0} (leaves : Start → D → Type 0) (others : Start → E → Type 0) (f : D → E) → ((s : Start) (d : D) → leaves s d → others s (f d)) →
    (r : Result Start Halt) (desk : Option D) → IsDeskOfStart leaves r desk → IsDeskOfStart others r (option_map f desk)
start_desk leaves others f so (Ok s) (Some desk) is = so s desk is
start_desk leaves others f so (Ok s) None is = is
start_desk leaves others f so (Err h) desk is = is

pub doing_desk : {D E : Type 0} (leaves : Start → D → Type 0) (others : Start → E → Type 0) (f : D → E) → ((s : Start) (d : D) → leaves s d → others s (f d)) →
    (d : Doing) (desk : Option D) → IsDeskOfDoing leaves d desk → IsDeskOfDoing others d (option_map f desk)
doing_desk leaves others f so Misuse desk is = ap (option_map f) is
doing_desk leaves others f so (Tells r) desk is = ap (option_map f) is
doing_desk leaves others f so (Plays how r) desk is = start_desk leaves others f so r desk is
