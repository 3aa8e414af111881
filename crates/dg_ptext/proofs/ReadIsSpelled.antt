-- What is read is spelled so by the grammar.
use Rattle.std.proofs.Common.{◌≡◌, ℕ, ◌+◌, ◌<◌, ◌≤◌, inl, inr, true, false, Bool, List, [], ◌∷◌, ◌++◌, length, refl, sym, ap, subst, ◌∙◌, arith, append_assoc, append-nil, Option, Some, None, Result, Ok, Err}
use Rattle.std.proofs.lemmas.List.Concat.{flat_map-append}
use Rattle.std.proofs.lemmas.List.{map-append}
use Rattle.std.specs.Prelude.{◌==◌, cond, IfOk}
use Rattle.std.specs.Str.{is_utf8}
use Rattle.dg_ptext.specs.declared.refusal.TextCode.{TextCode}
use Rattle.dg_ptext.specs.declared.refusal.TextCode.TheVariants as code
use Rattle.dg_ptext.specs.declared.state.Opened.{Opened}
use Rattle.dg_ptext.specs.declared.state.Phase.{Phase}
use Rattle.dg_ptext.specs.declared.state.Phase.TheVariants as phase
use Rattle.dg_ptext.specs.declared.state.State.{State}
use Rattle.dg_ptext.specs.declared.token.Token.{Token}
use Rattle.dg_ptext.specs.declared.token.Token.TheVariants as token
use Rattle.dg_ptext.specs.declared.tree.Field.{Field}
use Rattle.dg_ptext.specs.declared.tree.Value.{Value}
use Rattle.dg_ptext.specs.declared.tree.Value.TheVariants as value
use Rattle.dg_text.specs.Names.{is_name}
use Rattle.dg_ptext.specs.Token.{Placed, tokens}
use Rattle.dg_ptext.specs.Reading.{run, step, step_at, end, ended, ended_in, start, reading, innermost, with_outer, with_field, closed, opened, before_field, behind_field, behind_name, behind_colon, behind_strings}
use Rattle.dg_base.specs.declared.refusal.Refusal.{Refusal}
use Rattle.dg_base.specs.Refusal.{Gives, and_then}
use Rattle.dg_ptext.specs.Grammar.{on, IsOptionalColon, IsSeparator, string_tokens, joined, AreFields, IsValue, Spells}
use Rattle.dg_ptext.specs.Grammar.AreFields.{none, one_more}
use Rattle.dg_ptext.specs.Grammar.IsValue.{bare, quoted, message}

ok_same : {A : Type 0} (x y : A) → ◌≡◌ {A = Result A TextCode} (Ok x) (Ok y) → x ≡ y
ok_same x y e = cc

-- ---- what stands of the tokens so far

-- fields, a name, and what stands behind it
record Fronted (n : ℕ) (fields : List Field) (name : List ℕ) (line : ℕ) (tail ts : List Placed) : Type 0 where
  before_ts : List Placed
  are : AreFields n fields before_ts
  is : is_name name ≡ true
  whole : ts ≡ before_ts ++ on line (token.Word name) ∷ tail

-- fields of which the last one has no separator yet
record LastField (n : ℕ) (fields : List Field) (ts : List Placed) : Type 0 where
  before : List Field
  name : List ℕ
  line : ℕ
  v : Value
  value_ts : List Placed
  is_value : IsValue n v value_ts
  front : Fronted n before name line value_ts ts
  same : fields ≡ with_field before name line v

record StringsFront (n : ℕ) (fields : List Field) (name : List ℕ) (line : ℕ) (text : List ℕ) (ts : List Placed) : Type 0 where
  colon : ℕ
  first : ℕ × List ℕ
  others : List (ℕ × List ℕ)
  same : text ≡ joined (first ∷ others)
  front : Fronted n fields name line (on colon token.Colon ∷ string_tokens (first ∷ others)) ts

abbrev Inside : ℕ → List Field → Phase → List Placed → Type 0
Inside n fields phase.Before ts = AreFields n fields ts
Inside n fields phase.Behind ts = LastField n fields ts
Inside n fields (phase.Named name line) ts = Fronted n fields name line [] ts
Inside n fields (phase.Colon name line here) ts = Fronted n fields name line (on here token.Colon ∷ []) ts
Inside n fields (phase.Strings name line text) ts = StringsFront n fields name line text ts

record Around (n : ℕ) (o : Opened) (Inner : List Placed → Type 0) (ts : List Placed) : Type 0 where
  shallow : n < 64
  before_ts : List Placed
  colon_ts : List Placed
  inner_ts : List Placed
  are : AreFields n o.fields before_ts
  is : is_name o.name ≡ true
  colon : IsOptionalColon colon_ts
  inner : Inner inner_ts
  whole : ts ≡ before_ts ++ (on o.line (token.Word o.name) ∷ (colon_ts ++ (on o.brace token.Open ∷ inner_ts)))

abbrev SoFar : ℕ → List Opened → List Field → Phase → List Placed → Type 0
SoFar n [] fields p ts = Inside n fields p ts
SoFar n (o ∷ os) fields p ts = Around n o (SoFar (n + 1) os fields p) ts

-- ---- one more field, and one more token

snoc : (n : ℕ) (fields : List Field) (ts : List Placed) → AreFields n fields ts
    → (name : List ℕ) (line : ℕ) (v : Value) (value_ts separator_ts : List Placed) → is_name name ≡ true → IsValue n v value_ts → IsSeparator separator_ts
    → AreFields n (with_field fields name line v) (ts ++ on line (token.Word name) ∷ (value_ts ++ separator_ts))
snoc n fields ts (none _ _ _ e f) name line v value_ts separator_ts is value separator =
    one_more n (with_field fields name line v) (ts ++ on line (token.Word name) ∷ (value_ts ++ separator_ts)) name line v []
    value_ts separator_ts [] is value separator (none n [] [] refl refl) (rw e refl) (rw (f, append-nil) refl)
snoc n fields ts (one_more _ _ _ name' line' v' others value_ts' separator_ts' more_ts is' value' separator' others_are e f) name line v value_ts separator_ts is value separator =
    let X = on line (token.Word name) ∷ (value_ts ++ separator_ts) in
    one_more n (with_field fields name line v) (ts ++ X) name' line' v' (with_field others name line v)
    value_ts' separator_ts' (more_ts ++ X) is' value' separator'
    (snoc n others more_ts others_are name line v value_ts separator_ts is value separator)
    (ap (λ (fs : List Field). with_field fs name line v) e)
    (ap (λ (xs : List Placed). xs ++ X) f
    ∙ ap (λ (xs : List Placed). on line' (token.Word name') ∷ xs)
    (append_assoc value_ts' (separator_ts' ++ more_ts) X ∙ ap (λ (xs : List Placed). value_ts' ++ xs) (append_assoc separator_ts' more_ts X)))

-- more tokens behind those of an open message
message_more : (before_ts colon_ts inner_ts more ts : List Placed) (o : Opened)
    → ts ≡ before_ts ++ (on o.line (token.Word o.name) ∷ (colon_ts ++ (on o.brace token.Open ∷ inner_ts)))
    → ts ++ more ≡ before_ts ++ (on o.line (token.Word o.name) ∷ (colon_ts ++ (on o.brace token.Open ∷ (inner_ts ++ more))))
message_more before_ts colon_ts inner_ts more ts o whole =
    ap (λ (xs : List Placed). xs ++ more) whole
    ∙ (append_assoc before_ts (on o.line (token.Word o.name) ∷ (colon_ts ++ (on o.brace token.Open ∷ inner_ts))) more
    ∙ ap (λ (xs : List Placed). before_ts ++ (on o.line (token.Word o.name) ∷ xs)) (append_assoc colon_ts (on o.brace token.Open ∷ inner_ts) more))

-- the innermost message goes on by some tokens
goes_on : (n : ℕ) (around : List Opened) (fields others : List Field) (p q : Phase) (ts more : List Placed)
    → ((m : ℕ) (us : List Placed) → Inside m fields p us → Inside m others q (us ++ more))
    → SoFar n around fields p ts → SoFar n around others q (ts ++ more)
goes_on n [] fields others p q ts more f h = f n ts h
goes_on n (o ∷ os) fields others p q ts more f h =
    record {
      shallow = h.shallow;
      before_ts = h.before_ts;
      colon_ts = h.colon_ts;
      inner_ts = h.inner_ts ++ more;
      are = h.are;
      is = h.is;
      colon = h.colon;
      inner = goes_on (n + 1) os fields others p q h.inner_ts more f h.inner;
      whole = message_more h.before_ts h.colon_ts h.inner_ts more _ o h.whole;
    }

separated_last : (n : ℕ) (fields : List Field) (ts separator_ts : List Placed) → IsSeparator separator_ts → LastField n fields ts → AreFields n fields (ts ++ separator_ts)
separated_last n fields ts separator_ts separator h =
    let all = snoc n h.before h.front.before_ts h.front.are h.name h.line h.v h.value_ts separator_ts h.front.is h.is_value separator in
    let whole : ts ++ separator_ts ≡ h.front.before_ts ++ on h.line (token.Word h.name) ∷ (h.value_ts ++ separator_ts) =
    ap (λ (xs : List Placed). xs ++ separator_ts) h.front.whole ∙ append_assoc h.front.before_ts (on h.line (token.Word h.name) ∷ h.value_ts) separator_ts in
    rw (h.same, whole) all

settled : (n : ℕ) (around : List Opened) (fields : List Field) (ts : List Placed) → SoFar n around fields phase.Behind ts → SoFar n around fields phase.Before ts
settled n around fields ts h =
    let P : List Placed → Type 0 = λ xs. SoFar n around fields phase.Before xs in
    subst P (append-nil ts) (goes_on n around fields fields phase.Behind phase.Before ts [] (λ m us l. separated_last m fields us [] (inl refl) l) h)

front_more : (n : ℕ) (fields : List Field) (name : List ℕ) (line : ℕ) (tail ts more : List Placed)
    → Fronted n fields name line tail ts → Fronted n fields name line (tail ++ more) (ts ++ more)
front_more n fields name line tail ts more h =
    record {
      before_ts = h.before_ts;
      are = h.are;
      is = h.is;
      whole = ap (λ (xs : List Placed). xs ++ more) h.whole ∙ append_assoc h.before_ts (on line (token.Word name) ∷ tail) more;
    }

named_more : (n : ℕ) (fields : List Field) (name : List ℕ) (line : ℕ) (ts : List Placed) → is_name name ≡ true
    → AreFields n fields ts → Fronted n fields name line [] (ts ++ on line (token.Word name) ∷ [])
named_more n fields name line ts is h = record { before_ts = ts; are = h; is = is; whole = refl }

bare_more : (n : ℕ) (fields : List Field) (name : List ℕ) (line colon here : ℕ) (word : List ℕ) (ts : List Placed)
    → Fronted n fields name line (on colon token.Colon ∷ []) ts
    → LastField n (with_field fields name line (value.Bare word)) (ts ++ on here (token.Word word) ∷ [])
bare_more n fields name line colon here word ts h =
    record {
      before = fields;
      name = name;
      line = line;
      v = value.Bare word;
      value_ts = on colon token.Colon ∷ on here (token.Word word) ∷ [];
      is_value = bare n (value.Bare word) (on colon token.Colon ∷ on here (token.Word word) ∷ []) word colon here refl refl;
      front = front_more n fields name line (on colon token.Colon ∷ []) ts (on here (token.Word word) ∷ []) h;
      same = refl;
    }

first_more : (n : ℕ) (fields : List Field) (name : List ℕ) (line colon here : ℕ) (text : List ℕ) (ts : List Placed)
    → Fronted n fields name line (on colon token.Colon ∷ []) ts
    → StringsFront n fields name line text (ts ++ on here (token.Text text) ∷ [])
first_more n fields name line colon here text ts h =
    record {
      colon = colon;
      first = (here, text);
      others = [];
      same = sym (append-nil text);
      front = front_more n fields name line (on colon token.Colon ∷ []) ts (on here (token.Text text) ∷ []) h;
    }

string_more : (n : ℕ) (fields : List Field) (name : List ℕ) (line here : ℕ) (text more : List ℕ) (ts : List Placed)
    → StringsFront n fields name line text ts
    → StringsFront n fields name line (text ++ more) (ts ++ on here (token.Text more) ∷ [])
string_more n fields name line here text more ts h =
    let last : ℕ × List ℕ = (here, more) in
    let tail : string_tokens (h.first ∷ h.others) ++ on here (token.Text more) ∷ [] ≡ string_tokens ((h.first ∷ h.others) ++ last ∷ []) =
    sym (map-append (λ (s : ℕ × List ℕ). on s.0 (token.Text s.1)) (h.first ∷ h.others) (last ∷ [])) in
    let all : text ++ more ≡ joined ((h.first ∷ h.others) ++ last ∷ []) =
    ap (λ (t : List ℕ). t ++ more) h.same
    ∙ (ap (λ (t : List ℕ). joined (h.first ∷ h.others) ++ t) (sym (append-nil more))
    ∙ sym (flat_map-append (λ (s : ℕ × List ℕ). s.1) (h.first ∷ h.others) (last ∷ []))) in
    let front = front_more n fields name line (on h.colon token.Colon ∷ string_tokens (h.first ∷ h.others)) ts (on here (token.Text more) ∷ []) h.front in
    let P : List Placed → Type 0 = λ xs. Fronted n fields name line (on h.colon token.Colon ∷ xs) (ts ++ on here (token.Text more) ∷ []) in
    record { colon = h.colon; first = h.first; others = h.others ++ last ∷ []; same = all; front = subst P tail front }

strings_last : (n : ℕ) (fields : List Field) (name : List ℕ) (line : ℕ) (text : List ℕ) (ts : List Placed)
    → StringsFront n fields name line text ts → LastField n (with_field fields name line (value.Quoted text)) (ts ++ [])
strings_last n fields name line text ts h =
    let P : List Placed → Type 0 = λ xs. LastField n (with_field fields name line (value.Quoted text)) xs in
    subst P (sym (append-nil ts))
    (record {
      before = fields;
      name = name;
      line = line;
      v = value.Quoted text;
      value_ts = on h.colon token.Colon ∷ string_tokens (h.first ∷ h.others);
      is_value = quoted n (value.Quoted text) (on h.colon token.Colon ∷ string_tokens (h.first ∷ h.others)) h.colon h.first h.others (ap value.Quoted h.same) refl;
      front = h.front;
      same = refl;
    })

strings_settled : (n : ℕ) (around : List Opened) (fields : List Field) (name : List ℕ) (line : ℕ) (text : List ℕ) (ts : List Placed)
    → SoFar n around fields (phase.Strings name line text) ts → SoFar n around (with_field fields name line (value.Quoted text)) phase.Behind ts
strings_settled n around fields name line text ts h =
    let P : List Placed → Type 0 = λ xs. SoFar n around (with_field fields name line (value.Quoted text)) phase.Behind xs in
    subst P (append-nil ts)
    (goes_on n around fields (with_field fields name line (value.Quoted text)) (phase.Strings name line text) phase.Behind ts []
    (λ m us l. strings_last m fields name line text us l) h)

-- ---- messages

depth_le : (n : ℕ) (around : List Opened) (fields : List Field) (p : Phase) (ts : List Placed) → n ≤ 64 → SoFar n around fields p ts → n + length around ≤ 64
depth_le n [] fields p ts h s = omega (arith, h)
depth_le n (o ∷ os) fields p ts h s =
    let inner = depth_le (n + 1) os fields p s.inner_ts (omega (arith, s.shallow)) s.inner in
    omega (arith, inner)

open_more : (n : ℕ) (around : List Opened) (fields : List Field) (p : Phase) (name : List ℕ) (line here : ℕ) (colon_ts ts : List Placed)
    → n + length around < 64 → IsOptionalColon colon_ts
    → ((m : ℕ) (us : List Placed) → Inside m fields p us → Fronted m fields name line colon_ts us)
    → SoFar n around fields p ts
    → SoFar n (around ++ record { name = name; line = line; brace = here; fields = fields } ∷ []) [] phase.Before (ts ++ on here token.Open ∷ [])
open_more n [] fields p name line here colon_ts ts shallow colon f h =
    let front = f n ts h in
    record {
      shallow = omega (arith, shallow);
      before_ts = front.before_ts;
      colon_ts = colon_ts;
      inner_ts = [];
      are = front.are;
      is = front.is;
      colon = colon;
      inner = none (n + 1) [] [] refl refl;
      whole = ap (λ (xs : List Placed). xs ++ on here token.Open ∷ []) front.whole
          ∙ append_assoc front.before_ts (on line (token.Word name) ∷ colon_ts) (on here token.Open ∷ []);
    }
open_more n (o ∷ os) fields p name line here colon_ts ts shallow colon f h =
    let more = on here token.Open ∷ [] in
    record {
      shallow = h.shallow;
      before_ts = h.before_ts;
      colon_ts = h.colon_ts;
      inner_ts = h.inner_ts ++ more;
      are = h.are;
      is = h.is;
      colon = h.colon;
      inner = open_more (n + 1) os fields p name line here colon_ts h.inner_ts (omega (arith, shallow)) colon f h.inner;
      whole = message_more h.before_ts h.colon_ts h.inner_ts more _ o h.whole;
    }

close_more : (n : ℕ) (outer : List Opened) (o : Opened) (fields : List Field) (here : ℕ) (ts : List Placed)
    → SoFar n (outer ++ o ∷ []) fields phase.Before ts
    → SoFar n outer (with_field o.fields o.name o.line (value.Message fields)) phase.Behind (ts ++ on here token.Close ∷ [])
close_more n [] o fields here ts h =
    let more = on here token.Close ∷ [] in
    let value_ts = h.colon_ts ++ (on o.brace token.Open ∷ (h.inner_ts ++ more)) in
    record {
      before = o.fields;
      name = o.name;
      line = o.line;
      v = value.Message fields;
      value_ts = value_ts;
      is_value = message n (value.Message fields) value_ts fields h.colon_ts h.inner_ts o.brace here h.shallow h.colon h.inner refl refl;
      front = record {
        before_ts = h.before_ts;
        are = h.are;
        is = h.is;
        whole = message_more h.before_ts h.colon_ts h.inner_ts more _ o h.whole;
      };
      same = refl;
    }
close_more n (x ∷ xs) o fields here ts h =
    let more = on here token.Close ∷ [] in
    record {
      shallow = h.shallow;
      before_ts = h.before_ts;
      colon_ts = h.colon_ts;
      inner_ts = h.inner_ts ++ more;
      are = h.are;
      is = h.is;
      colon = h.colon;
      inner = close_more (n + 1) xs o fields here h.inner_ts h.inner;
      whole = message_more h.before_ts h.colon_ts h.inner_ts more _ x h.whole;
    }

-- ---- the innermost open message

innermost_none : (around : List Opened) → innermost around ≡ None → around ≡ []
innermost_none [] e = refl
innermost_none (o ∷ os) e = cc

innermost_back : (around : List Opened) (found : List Opened × Opened) → innermost around ≡ Some found → around ≡ found.0 ++ found.1 ∷ []
innermost_back [] found e = cc
innermost_back (o ∷ os) found e = by_rest (λ inner h. innermost_back os inner h) (innermost os) refl e
  where
    by_rest : ((inner : List Opened × Opened) → innermost os ≡ Some inner → os ≡ inner.0 ++ inner.1 ∷ [])
        → (rest : Option (List Opened × Opened)) → innermost os ≡ rest → Some (with_outer o rest) ≡ Some found → o ∷ os ≡ found.0 ++ found.1 ∷ []
    by_rest again None h f =
        let none : os ≡ [] = innermost_none os h in
        let is : ([], o) ≡ found = cc in
        rw (none, ← is) refl
    by_rest again (Some inner) h f =
        let is : (o ∷ inner.0, inner.1) ≡ found = cc in
        rw (← is) (ap (λ (xs : List Opened). o ∷ xs) (again inner h))

below_depth : (n : ℕ) → (n == 64) ≡ false → 0 + n ≤ 64 → 0 + n < 64
below_depth n is most = grind (arith, is, most)

-- ---- each step

abbrev SoFarAt : State → List Placed → Type 0
SoFarAt s ts = SoFar 0 s.around s.fields s.phase ts

-- the state that a step gives
given : (s t : State) (ts : List Placed) → ◌≡◌ {A = Result State TextCode} (Ok s) (Ok t) → SoFarAt s ts → SoFarAt t ts
given s t ts e h =
    let P : State → Type 0 = λ u. SoFarAt u ts in
    subst P (ok_same s t e) h

before_sound : (around : List Opened) (fields : List Field) (here : ℕ) (next : Token) (t : State) (ts : List Placed)
    → SoFar 0 around fields phase.Before ts → before_field around fields here next ≡ Ok t → SoFarAt t (ts ++ on here next ∷ [])
before_sound around fields here (token.Word word) t ts h e = by_name (is_name word) refl e
  where
    by_name : (b : Bool) → is_name word ≡ b
        → cond b (Ok (record { around = around; fields = fields; phase = phase.Named word here })) (Err (code.Token here)) ≡ Ok t
        → SoFarAt t (ts ++ on here (token.Word word) ∷ [])
    by_name true is e =
        given (record { around = around; fields = fields; phase = phase.Named word here }) t (ts ++ on here (token.Word word) ∷ []) e
        (goes_on 0 around fields fields phase.Before (phase.Named word here) ts (on here (token.Word word) ∷ [])
        (λ m us l. named_more m fields word here us is l) h)
    by_name false is e = absurd (cc)
before_sound around fields here token.Close t ts h e = by_stack (innermost around) refl e
  where
    by_stack : (found : Option (List Opened × Opened)) → innermost around ≡ found → closed found fields here ≡ Ok t → SoFarAt t (ts ++ on here token.Close ∷ [])
    by_stack None is e = absurd (cc)
    by_stack (Some found) is e =
        let P : List Opened → Type 0 = λ os. SoFar 0 os fields phase.Before ts in
        given (record { around = found.0; fields = with_field found.1.fields found.1.name found.1.line (value.Message fields); phase = phase.Behind }) t
        (ts ++ on here token.Close ∷ []) e
        (close_more 0 found.0 found.1 fields here ts (subst P (innermost_back around found is) h))
before_sound around fields here token.Open t ts h e = absurd (cc)
before_sound around fields here token.Colon t ts h e = absurd (cc)
before_sound around fields here token.Comma t ts h e = absurd (cc)
before_sound around fields here token.Semicolon t ts h e = absurd (cc)
before_sound around fields here (token.Text text) t ts h e = absurd (cc)
before_sound around fields here token.Bad t ts h e = absurd (cc)

separator_sound : (around : List Opened) (fields : List Field) (here : ℕ) (next : Token) (t : State) (ts : List Placed)
    → SoFar 0 around fields phase.Behind ts → IsSeparator (on here next ∷ [])
    → ◌≡◌ {A = Result State TextCode} (Ok (record { around = around; fields = fields; phase = phase.Before })) (Ok t) → SoFarAt t (ts ++ on here next ∷ [])
separator_sound around fields here next t ts h is e =
    given (record { around = around; fields = fields; phase = phase.Before }) t (ts ++ on here next ∷ []) e
    (goes_on 0 around fields fields phase.Behind phase.Before ts (on here next ∷ [])
    (λ m us l. separated_last m fields us (on here next ∷ []) is l) h)

behind_sound : (around : List Opened) (fields : List Field) (here : ℕ) (next : Token) (t : State) (ts : List Placed)
    → SoFar 0 around fields phase.Behind ts → behind_field around fields here next ≡ Ok t → SoFarAt t (ts ++ on here next ∷ [])
behind_sound around fields here token.Comma t ts h e = separator_sound around fields here token.Comma t ts h (inr (inl (here, refl))) e
behind_sound around fields here token.Semicolon t ts h e = separator_sound around fields here token.Semicolon t ts h (inr (inr (here, refl))) e
behind_sound around fields here (token.Word word) t ts h e = before_sound around fields here (token.Word word) t ts (settled 0 around fields ts h) e
behind_sound around fields here token.Close t ts h e = before_sound around fields here token.Close t ts (settled 0 around fields ts h) e
behind_sound around fields here token.Open t ts h e = absurd (cc)
behind_sound around fields here token.Colon t ts h e = absurd (cc)
behind_sound around fields here (token.Text text) t ts h e = absurd (cc)
behind_sound around fields here token.Bad t ts h e = absurd (cc)

opened_sound : (around : List Opened) (fields : List Field) (p : Phase) (name : List ℕ) (line here : ℕ) (colon_ts : List Placed) (t : State) (ts : List Placed)
    → IsOptionalColon colon_ts → ((m : ℕ) (us : List Placed) → Inside m fields p us → Fronted m fields name line colon_ts us)
    → SoFar 0 around fields p ts → opened around fields name line here ≡ Ok t → SoFarAt t (ts ++ on here token.Open ∷ [])
opened_sound around fields p name line here colon_ts t ts colon f h e = by_depth (length around == 64) refl e
  where
    by_depth : (b : Bool) → (length around == 64) ≡ b
        → cond b (Err (code.Nesting here)) (Ok (record { around = around ++ record { name = name; line = line; brace = here; fields = fields } ∷ []; fields = []; phase = phase.Before })) ≡ Ok t
        → SoFarAt t (ts ++ on here token.Open ∷ [])
    by_depth true is e = absurd (cc)
    by_depth false is e =
        let most = depth_le 0 around fields p ts (omega arith) h in
        let shallow : 0 + length around < 64 = below_depth (length around) is most in
        given (record { around = around ++ record { name = name; line = line; brace = here; fields = fields } ∷ []; fields = []; phase = phase.Before }) t
        (ts ++ on here token.Open ∷ []) e
        (open_more 0 around fields p name line here colon_ts ts shallow colon f h)

named_sound : (around : List Opened) (fields : List Field) (name : List ℕ) (line here : ℕ) (next : Token) (t : State) (ts : List Placed)
    → SoFar 0 around fields (phase.Named name line) ts → behind_name around fields name line here next ≡ Ok t → SoFarAt t (ts ++ on here next ∷ [])
named_sound around fields name line here token.Colon t ts h e =
    given (record { around = around; fields = fields; phase = phase.Colon name line here }) t (ts ++ on here token.Colon ∷ []) e
    (goes_on 0 around fields fields (phase.Named name line) (phase.Colon name line here) ts (on here token.Colon ∷ [])
    (λ m us l. front_more m fields name line [] us (on here token.Colon ∷ []) l) h)
named_sound around fields name line here token.Open t ts h e =
    opened_sound around fields (phase.Named name line) name line here [] t ts (inl refl) (λ m us l. l) h e
named_sound around fields name line here token.Close t ts h e = absurd (cc)
named_sound around fields name line here token.Comma t ts h e = absurd (cc)
named_sound around fields name line here token.Semicolon t ts h e = absurd (cc)
named_sound around fields name line here (token.Word word) t ts h e = absurd (cc)
named_sound around fields name line here (token.Text text) t ts h e = absurd (cc)
named_sound around fields name line here token.Bad t ts h e = absurd (cc)

colon_sound : (around : List Opened) (fields : List Field) (name : List ℕ) (line colon here : ℕ) (next : Token) (t : State) (ts : List Placed)
    → SoFar 0 around fields (phase.Colon name line colon) ts → behind_colon around fields name line here next ≡ Ok t → SoFarAt t (ts ++ on here next ∷ [])
colon_sound around fields name line colon here (token.Word word) t ts h e =
    given (record { around = around; fields = with_field fields name line (value.Bare word); phase = phase.Behind }) t (ts ++ on here (token.Word word) ∷ []) e
    (goes_on 0 around fields (with_field fields name line (value.Bare word)) (phase.Colon name line colon) phase.Behind ts (on here (token.Word word) ∷ [])
    (λ m us l. bare_more m fields name line colon here word us l) h)
colon_sound around fields name line colon here (token.Text text) t ts h e =
    given (record { around = around; fields = fields; phase = phase.Strings name line text }) t (ts ++ on here (token.Text text) ∷ []) e
    (goes_on 0 around fields fields (phase.Colon name line colon) (phase.Strings name line text) ts (on here (token.Text text) ∷ [])
    (λ m us l. first_more m fields name line colon here text us l) h)
colon_sound around fields name line colon here token.Open t ts h e =
    opened_sound around fields (phase.Colon name line colon) name line here (on colon token.Colon ∷ []) t ts (inr (colon, refl)) (λ m us l. l) h e
colon_sound around fields name line colon here token.Close t ts h e = absurd (cc)
colon_sound around fields name line colon here token.Colon t ts h e = absurd (cc)
colon_sound around fields name line colon here token.Comma t ts h e = absurd (cc)
colon_sound around fields name line colon here token.Semicolon t ts h e = absurd (cc)
colon_sound around fields name line colon here token.Bad t ts h e = absurd (cc)

strings_sound : (around : List Opened) (fields : List Field) (name : List ℕ) (line : ℕ) (text : List ℕ) (here : ℕ) (next : Token) (t : State) (ts : List Placed)
    → SoFar 0 around fields (phase.Strings name line text) ts → behind_strings around fields name line text here next ≡ Ok t → SoFarAt t (ts ++ on here next ∷ [])
strings_sound around fields name line text here (token.Text more) t ts h e =
    given (record { around = around; fields = fields; phase = phase.Strings name line (text ++ more) }) t (ts ++ on here (token.Text more) ∷ []) e
    (goes_on 0 around fields fields (phase.Strings name line text) (phase.Strings name line (text ++ more)) ts (on here (token.Text more) ∷ [])
    (λ m us l. string_more m fields name line here text more us l) h)
strings_sound around fields name line text here (token.Word word) t ts h e =
    behind_sound around (with_field fields name line (value.Quoted text)) here (token.Word word) t ts (strings_settled 0 around fields name line text ts h) e
strings_sound around fields name line text here token.Close t ts h e =
    behind_sound around (with_field fields name line (value.Quoted text)) here token.Close t ts (strings_settled 0 around fields name line text ts h) e
strings_sound around fields name line text here token.Comma t ts h e =
    behind_sound around (with_field fields name line (value.Quoted text)) here token.Comma t ts (strings_settled 0 around fields name line text ts h) e
strings_sound around fields name line text here token.Semicolon t ts h e =
    behind_sound around (with_field fields name line (value.Quoted text)) here token.Semicolon t ts (strings_settled 0 around fields name line text ts h) e
strings_sound around fields name line text here token.Open t ts h e = absurd (cc)
strings_sound around fields name line text here token.Colon t ts h e = absurd (cc)
strings_sound around fields name line text here token.Bad t ts h e = absurd (cc)

step_sound : (around : List Opened) (fields : List Field) (p : Phase) (here : ℕ) (next : Token) (t : State) (ts : List Placed)
    → SoFar 0 around fields p ts → step_at around fields p here next ≡ Ok t → SoFarAt t (ts ++ on here next ∷ [])
step_sound around fields phase.Before here next t ts h e = before_sound around fields here next t ts h e
step_sound around fields phase.Behind here next t ts h e = behind_sound around fields here next t ts h e
step_sound around fields (phase.Named name line) here next t ts h e = named_sound around fields name line here next t ts h e
step_sound around fields (phase.Colon name line colon) here next t ts h e = colon_sound around fields name line colon here next t ts h e
step_sound around fields (phase.Strings name line text) here next t ts h e = strings_sound around fields name line text here next t ts h e

-- ---- the whole text

ended_sound : (fields tree : List Field) (p : Phase) (ts : List Placed) → Inside 0 fields p ts → ended fields p ≡ Ok tree → AreFields 0 tree ts
ended_sound fields tree phase.Before ts h e = subst (λ (fs : List Field). AreFields 0 fs ts) (ok_same fields tree e) h
ended_sound fields tree phase.Behind ts h e = subst (λ (fs : List Field). AreFields 0 fs ts) (ok_same fields tree e) (settled 0 [] fields ts h)
ended_sound fields tree (phase.Named name line) ts h e = absurd (cc)
ended_sound fields tree (phase.Colon name line colon) ts h e = absurd (cc)
ended_sound fields tree (phase.Strings name line text) ts h e =
    subst (λ (fs : List Field). AreFields 0 fs ts) (ok_same (with_field fields name line (value.Quoted text)) tree e)
    (settled 0 [] (with_field fields name line (value.Quoted text)) ts (strings_settled 0 [] fields name line text ts h))

end_sound : (around : List Opened) (fields tree : List Field) (p : Phase) (ts : List Placed)
    → SoFar 0 around fields p ts → ended_in (innermost around) fields p ≡ Ok tree → AreFields 0 tree ts
end_sound [] fields tree p ts h e = ended_sound fields tree p ts h e
end_sound (o ∷ os) fields tree p ts h e = absurd (cc)

run_sound : (more : List Placed) (s : State) (tree : List Field) (ts : List Placed) → SoFarAt s ts → run s more ≡ Ok tree → AreFields 0 tree (ts ++ more)
unfolding run step end
run_sound [] s tree ts h e = rw append-nil (end_sound s.around s.fields tree s.phase ts h e)
run_sound (next ∷ more) s tree ts h e =
    by_step (λ t us k f. run_sound more t tree us k f) (step_at s.around s.fields s.phase next.line next.token) refl e
  where
    by_step : ((t : State) (us : List Placed) → SoFarAt t us → run t more ≡ Ok tree → AreFields 0 tree (us ++ more))
        → (r : Result State TextCode) → step_at s.around s.fields s.phase next.line next.token ≡ r
        → and_then r (λ u. run u more) ≡ Ok tree → AreFields 0 tree (ts ++ next ∷ more)
    by_step again (Err f) is e = absurd (cc)
    by_step again (Ok t) is e =
        let P : List Placed → Type 0 = λ xs. AreFields 0 tree xs in
        subst P (append_assoc ts (next ∷ []) more)
        (again t (ts ++ next ∷ [])
        (step_sound s.around s.fields s.phase next.line next.token t ts h is) e)

pub spelled-reading : (bytes : List ℕ) (tree : List Field) → reading bytes ≡ Ok tree → Spells bytes tree
unfolding reading
spelled-reading bytes tree e = by_text (is_utf8 bytes) refl e
  where
    by_text : (b : Bool) → is_utf8 bytes ≡ b → cond b (run start (tokens 0 1 bytes)) (Err code.Utf8) ≡ Ok tree → Spells bytes tree
    by_text true is e = record { utf8 = is; fields = run_sound (tokens 0 1 bytes) start tree [] (none 0 [] [] refl refl) e }
    by_text false is e = absurd (cc)

-- what is given of a reading is spelled so
pub spelled-given : (bytes : List ℕ) (r : Result (List Field) (Refusal TextCode)) → Gives (λ x. x) r (reading bytes) → IfOk r (λ tree. Spells bytes tree)
spelled-given bytes (Ok tree) h = spelled-reading bytes tree h
spelled-given bytes (Err e) h = tt
