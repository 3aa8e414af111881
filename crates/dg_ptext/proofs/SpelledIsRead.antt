-- What the grammar spells is read so.
use Rattle.std.proofs.Common.{◌≡◌, ℕ, ◌+◌, ◌<◌, ◌⊎◌, inl, inr, true, false, List, [], ◌∷◌, ◌++◌, length, length-append, refl, sym, ap, subst, ◌∙◌, arith, append_assoc, append-nil, Option, Some, None, Ok}
use Rattle.std.specs.Prelude.{◌==◌}
use Rattle.dg_ptext.specs.declared.state.Opened.{Opened}
use Rattle.dg_ptext.specs.declared.state.Phase.{Phase}
use Rattle.dg_ptext.specs.declared.state.Phase.TheVariants as phase
use Rattle.dg_ptext.specs.declared.state.State.{State}
use Rattle.dg_ptext.specs.declared.token.Token.{Token}
use Rattle.dg_ptext.specs.declared.token.Token.TheVariants as token
use Rattle.dg_ptext.specs.declared.tree.Field.{Field}
use Rattle.dg_ptext.specs.declared.tree.Value.{Value}
use Rattle.dg_ptext.specs.declared.tree.Value.TheVariants as value
use Rattle.dg_text.specs.Names.{is_name}
use Rattle.dg_ptext.specs.Token.{Placed, tokens}
use Rattle.dg_ptext.specs.Reading.{run, step, end, start, reading, innermost, ended_in, with_field}
use Rattle.dg_base.specs.Refusal.{and_then}
use Rattle.dg_ptext.specs.Grammar.{on, IsOptionalColon, IsSeparator, string_tokens, joined, AreFields, IsValue, Spells}
use Rattle.dg_ptext.specs.Grammar.AreFields.{none, one_more}
use Rattle.dg_ptext.specs.Grammar.IsValue.{bare, quoted, message}
use Rattle.dg_ptext.proofs.States.{innermost-append}

abbrev at_phase : List Opened → List Field → Phase → State
at_phase around fields p = record { around = around; fields = fields; phase = p }

-- no string stands first
abbrev IsNoText : Token → Type 0
IsNoText (token.Text _) = ⊥
IsNoText _ = Unit {0}

abbrev NoTextFirst : List Placed → Type 0
NoTextFirst [] = Unit {0}
NoTextFirst (t ∷ ts) = IsNoText t.token

abbrev IsReady : Phase → Type 0
IsReady p = (p ≡ phase.Before) ⊎ (p ≡ phase.Behind)

name_before : (around : List Opened) (fields : List Field) (name : List ℕ) (line : ℕ) (more : List Placed) → is_name name ≡ true
    → run (at_phase around fields phase.Before) (on line (token.Word name) ∷ more) ≡ run (at_phase around fields (phase.Named name line)) more
unfolding run step
name_before around fields name line more h = rw h refl

name_behind : (around : List Opened) (fields : List Field) (name : List ℕ) (line : ℕ) (more : List Placed) → is_name name ≡ true
    → run (at_phase around fields phase.Behind) (on line (token.Word name) ∷ more) ≡ run (at_phase around fields (phase.Named name line)) more
unfolding run step
name_behind around fields name line more h = rw h refl

name_ready : (around : List Opened) (fields : List Field) (p : Phase) (name : List ℕ) (line : ℕ) (more : List Placed) → IsReady p → is_name name ≡ true
    → run (at_phase around fields p) (on line (token.Word name) ∷ more) ≡ run (at_phase around fields (phase.Named name line)) more
name_ready around fields p name line more (inl e) h = rw e (name_before around fields name line more h)
name_ready around fields p name line more (inr e) h = rw e (name_behind around fields name line more h)

close_before : (around : List Opened) (last : Opened) (fields : List Field) (line : ℕ) (more : List Placed)
    → run (at_phase (around ++ last ∷ []) fields phase.Before) (on line token.Close ∷ more)
    ≡ run (at_phase around (with_field last.fields last.name last.line (value.Message fields)) phase.Behind) more
unfolding run step
close_before around last fields line more = rw (innermost-append around last) refl

close_behind : (around : List Opened) (last : Opened) (fields : List Field) (line : ℕ) (more : List Placed)
    → run (at_phase (around ++ last ∷ []) fields phase.Behind) (on line token.Close ∷ more)
    ≡ run (at_phase around (with_field last.fields last.name last.line (value.Message fields)) phase.Behind) more
unfolding run step
close_behind around last fields line more = rw (innermost-append around last) refl

close_ready : (around : List Opened) (last : Opened) (fields : List Field) (p : Phase) (line : ℕ) (more : List Placed) → IsReady p
    → run (at_phase (around ++ last ∷ []) fields p) (on line token.Close ∷ more)
    ≡ run (at_phase around (with_field last.fields last.name last.line (value.Message fields)) phase.Behind) more
close_ready around last fields p line more (inl e) = rw e (close_before around last fields line more)
close_ready around last fields p line more (inr e) = rw e (close_behind around last fields line more)

-- behind a separator, if there is one
separated : (around : List Opened) (fields : List Field) (ts more : List Placed) → IsSeparator ts
    → (p : Phase) × IsReady p × (run (at_phase around fields phase.Behind) (ts ++ more) ≡ run (at_phase around fields p) more)
unfolding run step
separated around fields ts more (inl e) = (phase.Behind, inr refl, rw e refl)
separated around fields ts more (inr (inl (line, e))) = (phase.Before, inl refl, rw e refl)
separated around fields ts more (inr (inr (line, e))) = (phase.Before, inl refl, rw e refl)

separator_no_text : (ts more : List Placed) → IsSeparator ts → NoTextFirst more → NoTextFirst (ts ++ more)
separator_no_text ts more (inl e) h = rw e h
separator_no_text ts more (inr (inl (line, e))) h = rw e tt
separator_no_text ts more (inr (inr (line, e))) h = rw e tt

-- the end of strings is the end of their field
strings_end : (around : List Opened) (fields : List Field) (name : List ℕ) (line : ℕ) (text : List ℕ) (more : List Placed) → NoTextFirst more
    → run (at_phase around fields (phase.Strings name line text)) more
    ≡ run (at_phase around (with_field fields name line (value.Quoted text)) phase.Behind) more
unfolding run step end
strings_end around fields name line text [] h = both (innermost around)
  where
    both : (found : Option (List Opened × Opened))
        → ended_in found fields (phase.Strings name line text) ≡ ended_in found (with_field fields name line (value.Quoted text)) phase.Behind
    both None = refl
    both (Some found) = refl
strings_end around fields name line text (t ∷ ts) h = by_token t.token h
  where
    by_token : (next : Token) → IsNoText next
        → and_then (step (at_phase around fields (phase.Strings name line text)) t.line next) (λ u. run u ts)
        ≡ and_then (step (at_phase around (with_field fields name line (value.Quoted text)) phase.Behind) t.line next) (λ u. run u ts)
    by_token token.Open h = refl
    by_token token.Close h = refl
    by_token token.Colon h = refl
    by_token token.Comma h = refl
    by_token token.Semicolon h = refl
    by_token (token.Word w) h = refl
    by_token (token.Text w) h = absurd h
    by_token token.Bad h = refl

strings_more : (around : List Opened) (fields : List Field) (name : List ℕ) (line : ℕ) (text : List ℕ) (strings : List (ℕ × List ℕ)) (more : List Placed)
    → run (at_phase around fields (phase.Strings name line text)) (string_tokens strings ++ more)
    ≡ run (at_phase around fields (phase.Strings name line (text ++ joined strings))) more
unfolding run step
strings_more around fields name line text [] more =
    ap (λ (t : List ℕ). run (at_phase around fields (phase.Strings name line t)) more) (sym (append-nil text))
strings_more around fields name line text (s ∷ strings) more =
    strings_more around fields name line (text ++ s.1) strings more
    ∙ ap (λ (t : List ℕ). run (at_phase around fields (phase.Strings name line t)) more) (append_assoc text s.1 (joined strings))

-- a message begins
open_named : (around : List Opened) (fields : List Field) (name : List ℕ) (line brace : ℕ) (more : List Placed) → length around < 64
    → run (at_phase around fields (phase.Named name line)) (on brace token.Open ∷ more)
    ≡ run (at_phase (around ++ record { name = name; line = line; brace = brace; fields = fields } ∷ []) [] phase.Before) more
unfolding run step
open_named around fields name line brace more h =
    let other : (length around == 64) ≡ false = grind (arith, h) in
    rw other refl

open_colon : (around : List Opened) (fields : List Field) (name : List ℕ) (line colon brace : ℕ) (more : List Placed) → length around < 64
    → run (at_phase around fields (phase.Colon name line colon)) (on brace token.Open ∷ more)
    ≡ run (at_phase (around ++ record { name = name; line = line; brace = brace; fields = fields } ∷ []) [] phase.Before) more
unfolding run step
open_colon around fields name line colon brace more h =
    let other : (length around == 64) ≡ false = grind (arith, h) in
    rw other refl

colon_named : (around : List Opened) (fields : List Field) (name : List ℕ) (line colon : ℕ) (more : List Placed)
    → run (at_phase around fields (phase.Named name line)) (on colon token.Colon ∷ more) ≡ run (at_phase around fields (phase.Colon name line colon)) more
unfolding run step
colon_named around fields name line colon more = refl

open_either : (around : List Opened) (fields : List Field) (name : List ℕ) (line brace : ℕ) (ts more : List Placed) → length around < 64 → IsOptionalColon ts
    → run (at_phase around fields (phase.Named name line)) (ts ++ on brace token.Open ∷ more)
    ≡ run (at_phase (around ++ record { name = name; line = line; brace = brace; fields = fields } ∷ []) [] phase.Before) more
open_either around fields name line brace ts more h (inl e) = rw e (open_named around fields name line brace more h)
open_either around fields name line brace ts more h (inr (colon, e)) =
    rw e (colon_named around fields name line colon (on brace token.Open ∷ more) ∙ open_colon around fields name line colon brace more h)

bare_colon : (around : List Opened) (fields : List Field) (name : List ℕ) (line colon here : ℕ) (word : List ℕ) (more : List Placed)
    → run (at_phase around fields (phase.Named name line)) (on colon token.Colon ∷ on here (token.Word word) ∷ more)
    ≡ run (at_phase around (with_field fields name line (value.Bare word)) phase.Behind) more
unfolding run step
bare_colon around fields name line colon here word more = refl

first_string : (around : List Opened) (fields : List Field) (name : List ℕ) (line colon here : ℕ) (text : List ℕ) (more : List Placed)
    → run (at_phase around fields (phase.Named name line)) (on colon token.Colon ∷ on here (token.Text text) ∷ more)
    ≡ run (at_phase around fields (phase.Strings name line text)) more
unfolding run step
first_string around fields name line colon here text more = refl

fields_no_text : (depth : ℕ) (fields : List Field) (ts more : List Placed) → AreFields depth fields ts → NoTextFirst more → NoTextFirst (ts ++ more)
fields_no_text depth fields ts more (none _ _ _ _ e) h = rw e h
fields_no_text depth fields ts more (one_more _ _ _ name line v others value_ts separator_ts more_ts _ _ _ _ _ e) h = rw e tt

abbrev opened_at : List Opened → List Field → List ℕ → ℕ → ℕ → List Opened
opened_at around fields name line brace = around ++ record { name = name; line = line; brace = brace; fields = fields } ∷ []

deeper : (around : List Opened) (fields : List Field) (name : List ℕ) (line brace depth : ℕ) → length around ≡ depth
    → length (opened_at around fields name line brace) ≡ depth + 1
deeper around fields name line brace depth h =
    length-append around (record { name = name; line = line; brace = brace; fields = fields } ∷ []) ∙ ap (λ (n : ℕ). n + 1) h

bare_read : (around : List Opened) (before : List Field) (name : List ℕ) (line : ℕ) (v : Value) (ts more : List Placed) (word : List ℕ) (colon here : ℕ)
    → v ≡ value.Bare word → ts ≡ on colon token.Colon ∷ on here (token.Word word) ∷ []
    → run (at_phase around before (phase.Named name line)) (ts ++ more) ≡ run (at_phase around (with_field before name line v) phase.Behind) more
bare_read around before name line v ts more word colon here e f = rw (e, f) (bare_colon around before name line colon here word more)

quoted_read : (around : List Opened) (before : List Field) (name : List ℕ) (line : ℕ) (v : Value) (ts more : List Placed) (colon : ℕ)
    (first : ℕ × List ℕ) (others : List (ℕ × List ℕ)) → NoTextFirst more
    → v ≡ value.Quoted (joined (first ∷ others)) → ts ≡ on colon token.Colon ∷ string_tokens (first ∷ others)
    → run (at_phase around before (phase.Named name line)) (ts ++ more) ≡ run (at_phase around (with_field before name line v) phase.Behind) more
quoted_read around before name line v ts more colon first others h e f =
    rw (e, f)
    (first_string around before name line colon first.0 first.1 (string_tokens others ++ more)
    ∙ (strings_more around before name line first.1 others more
    ∙ strings_end around before name line (first.1 ++ joined others) more h))

-- a message is read where its fields are
message_read : (around : List Opened) (before : List Field) (name : List ℕ) (line : ℕ) (v : Value) (ts more : List Placed)
    (fields : List Field) (colon_ts inner_ts : List Placed) (brace close : ℕ) → length around < 64 → IsOptionalColon colon_ts
    → v ≡ value.Message fields → ts ≡ colon_ts ++ on brace token.Open ∷ (inner_ts ++ on close token.Close ∷ [])
    → (p : Phase) × IsReady p × (run (at_phase (opened_at around before name line brace) [] phase.Before) (inner_ts ++ on close token.Close ∷ more)
    ≡ run (at_phase (opened_at around before name line brace) fields p) (on close token.Close ∷ more))
    → run (at_phase around before (phase.Named name line)) (ts ++ more) ≡ run (at_phase around (with_field before name line v) phase.Behind) more
message_read around before name line v ts more fields colon_ts inner_ts brace close h colon e f inner =
    let regrouped : ts ++ more ≡ colon_ts ++ on brace token.Open ∷ (inner_ts ++ on close token.Close ∷ more) =
    ap (λ (xs : List Placed). xs ++ more) f
    ∙ (append_assoc colon_ts (on brace token.Open ∷ (inner_ts ++ on close token.Close ∷ [])) more
    ∙ ap (λ (xs : List Placed). colon_ts ++ on brace token.Open ∷ xs) (append_assoc inner_ts (on close token.Close ∷ []) more)) in
    rw (e, regrouped)
    (open_either around before name line brace colon_ts (inner_ts ++ on close token.Close ∷ more) h colon
    ∙ (inner.2
    ∙ close_ready around (record { name = name; line = line; brace = brace; fields = before }) fields inner.0 close more inner.1))

no_fields_read : (around : List Opened) (before : List Field) (p : Phase) (fields : List Field) (ts more : List Placed) → IsReady p
    → fields ≡ [] → ts ≡ []
    → (q : Phase) × IsReady q × (run (at_phase around before p) (ts ++ more) ≡ run (at_phase around (before ++ fields) q) more)
no_fields_read around before p fields ts more ready e f =
    (p, ready, rw (e, f) (ap (λ fs. run (at_phase around fs p) more) (sym (append-nil before))))

abbrev field_of : List ℕ → ℕ → Value → Field
field_of name line v = record { name = name; line = line; value = v }

one_more_read : (around : List Opened) (before : List Field) (p : Phase) (fields : List Field) (ts more : List Placed)
    (name : List ℕ) (line : ℕ) (v : Value) (others : List Field) (value_ts separator_ts more_ts : List Placed) (q : Phase) → IsReady p
    → is_name name ≡ true
    → fields ≡ field_of name line v ∷ others
    → ts ≡ on line (token.Word name) ∷ (value_ts ++ (separator_ts ++ more_ts))
    → run (at_phase around before (phase.Named name line)) (value_ts ++ (separator_ts ++ (more_ts ++ more)))
    ≡ run (at_phase around (with_field before name line v) phase.Behind) (separator_ts ++ (more_ts ++ more))
    → run (at_phase around (with_field before name line v) phase.Behind) (separator_ts ++ (more_ts ++ more))
    ≡ run (at_phase around (with_field before name line v) q) (more_ts ++ more)
    → (r : Phase) × IsReady r × (run (at_phase around (with_field before name line v) q) (more_ts ++ more)
    ≡ run (at_phase around (with_field before name line v ++ others) r) more)
    → (r : Phase) × IsReady r × (run (at_phase around before p) (ts ++ more) ≡ run (at_phase around (before ++ fields) r) more)
one_more_read around before p fields ts more name line v others value_ts separator_ts more_ts q ready is e f by_value by_separator rest =
    let regrouped : ts ++ more ≡ on line (token.Word name) ∷ (value_ts ++ (separator_ts ++ (more_ts ++ more))) =
    ap (λ (xs : List Placed). xs ++ more) f
    ∙ ap (λ (xs : List Placed). on line (token.Word name) ∷ xs)
    (append_assoc value_ts (separator_ts ++ more_ts) more ∙ ap (λ (xs : List Placed). value_ts ++ xs) (append_assoc separator_ts more_ts more)) in
    let whole : with_field before name line v ++ others ≡ before ++ fields =
    append_assoc before (field_of name line v ∷ []) others ∙ ap (λ (fs : List Field). before ++ fs) (sym e) in (
      rest.0,
      rest.1,
      ap (run (at_phase around before p)) regrouped
          ∙ (name_ready around before p name line (value_ts ++ (separator_ts ++ (more_ts ++ more))) ready is
          ∙ (by_value ∙ (by_separator ∙ (rest.2 ∙ ap (λ (fs : List Field). run (at_phase around fs rest.0) more) whole)))),
    )

mutual
  fields_read : (depth : ℕ) (fields : List Field) (ts : List Placed) → AreFields depth fields ts
      → (around : List Opened) (before : List Field) (p : Phase) (more : List Placed) → length around ≡ depth → IsReady p → NoTextFirst more
      → (q : Phase) × IsReady q × (run (at_phase around before p) (ts ++ more) ≡ run (at_phase around (before ++ fields) q) more)
  fields_read depth fields ts (none _ _ _ e f) around before p more deep ready last = no_fields_read around before p fields ts more ready e f
  fields_read depth fields ts (one_more _ _ _ name line v others value_ts separator_ts more_ts is value_is separator_is others_are e f) around before p more deep ready last =
      let others_last = fields_no_text depth others more_ts more others_are last in
      let step = separated around (with_field before name line v) separator_ts (more_ts ++ more) separator_is in
      one_more_read around before p fields ts more name line v others value_ts separator_ts more_ts step.0 ready is e f
      (value_read depth v value_ts value_is around before name line (separator_ts ++ (more_ts ++ more)) deep
      (separator_no_text separator_ts (more_ts ++ more) separator_is others_last))
      step.2
      (fields_read depth others more_ts others_are around (with_field before name line v) step.0 more deep step.1 last)

  value_read : (depth : ℕ) (v : Value) (ts : List Placed) → IsValue depth v ts
      → (around : List Opened) (before : List Field) (name : List ℕ) (line : ℕ) (more : List Placed) → length around ≡ depth → NoTextFirst more
      → run (at_phase around before (phase.Named name line)) (ts ++ more) ≡ run (at_phase around (with_field before name line v) phase.Behind) more
  value_read depth v ts (bare _ _ _ word colon here e f) around before name line more deep last = bare_read around before name line v ts more word colon here e f
  value_read depth v ts (quoted _ _ _ colon first others e f) around before name line more deep last =
      quoted_read around before name line v ts more colon first others last e f
  value_read depth v ts (message _ _ _ fields colon_ts inner_ts brace close shallow colon inner e f) around before name line more deep last =
      message_read around before name line v ts more fields colon_ts inner_ts brace close (subst (λ (n : ℕ). n < 64) (sym deep) shallow) colon e f
      (fields_read (depth + 1) fields inner_ts inner (opened_at around before name line brace) [] phase.Before (on close token.Close ∷ more)
      (deeper around before name line brace depth deep) (inl refl) tt)

ended_ready : (fields : List Field) (p : Phase) → IsReady p → run (at_phase [] fields p) [] ≡ Ok fields
unfolding run end
ended_ready fields p (inl e) = rw e refl
ended_ready fields p (inr e) = rw e refl

pub reading-spelled : (bytes : List ℕ) (tree : List Field) → Spells bytes tree → reading bytes ≡ Ok tree
unfolding reading
reading-spelled bytes tree s =
    let whole = fields_read 0 tree (tokens 0 1 bytes) s.fields [] [] phase.Before [] refl (inl refl) tt in
    rw s.utf8
    (ap (run start) (sym (append-nil (tokens 0 1 bytes)))
    ∙ (whole.2 ∙ ended_ready tree whole.0 whole.1))
