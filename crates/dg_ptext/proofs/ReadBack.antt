-- What is printed of a tree that was read is spelled by the grammar again.
use Rattle.std.proofs.Common.{◌≡◌, ℕ, ◌+◌, ◌<◌, inl, true, false, List, [], ◌∷◌, ◌++◌, refl, sym, ap, subst, ◌∙◌, arith, append_assoc, append-nil, IsUtf8, Ok}
use Rattle.std.proofs.lemmas.Str.{IsUtf8-append, IsUtf8-nil, IsUtf8-from_is_utf8, is_utf8-from_IsUtf8}
use Rattle.std.specs.Str.{is_utf8}
use Rattle.dg_ptext.specs.declared.token.Token.TheVariants as token
use Rattle.dg_ptext.specs.declared.tree.Field.{Field}
use Rattle.dg_ptext.specs.declared.tree.Value.{Value}
use Rattle.dg_ptext.specs.declared.tree.Value.TheVariants as value
use Rattle.dg_text.specs.Names.{is_name}
use Rattle.dg_ptext.specs.Token.{Placed, tokens, is_word_byte, line_behind}
use Rattle.dg_text.specs.Quoted.{quoted}
use Rattle.dg_ptext.specs.Printed.{printed, printed_value}
use Rattle.dg_ptext.specs.Grammar.{on, string_tokens, joined, AreFields, IsValue}
use Rattle.dg_ptext.specs.Grammar.AreFields.{none, one_more}
use Rattle.dg_ptext.specs.Grammar.IsValue.{bare, quoted as quoted_, message}
use Rattle.dg_ptext.specs.Same.{SameFields, SameValue}
use Rattle.dg_ptext.specs.Same.SameFields.{none as same_none, one_more as same_more}
use Rattle.dg_ptext.specs.Same.SameValue.{bare as same_bare, quoted as same_quoted, message as same_message}
use Rattle.dg_ptext.specs.Reading.{reading}
use Rattle.dg_ptext.proofs.Trees.{printed-Message}
use Rattle.dg_ptext.proofs.WordBytes.{IsWord, utf8_word}
use Rattle.dg_ptext.proofs.PrintedTokens.{tokens_blank, tokens_feed, tokens_colon, tokens_open, tokens_close, tokens_margin, tokens_word, tokens_quoted, deeper_margin, AreBlanks, utf8_blanks}
use Rattle.dg_ptext.proofs.TokenForms.{AreFormed, formed_parts, tokens_formed}
use Rattle.dg_text.proofs.Utf8Tests.{ascii_then}
use Rattle.dg_text.proofs.QuotedCharacters.{utf8_quoted}
use Rattle.dg_ptext.proofs.SpelledIsRead.{reading-spelled}
use Rattle.dg_ptext.proofs.ReadIsSpelled.{spelled-reading}

record FieldsAgain (depth : ℕ) (fields : List Field) (line : ℕ) (text : List ℕ) : Type 0 where
  again : List Field
  ts : List Placed
  next : ℕ
  are : AreFields depth again ts
  same : SameFields fields again
  utf8 : IsUtf8 text
  read : (xs : List ℕ) → tokens 0 line (text ++ xs) ≡ ts ++ tokens 0 next xs

-- a value's text begins with no byte of a word
record ValueAgain (depth : ℕ) (v : Value) (line : ℕ) (text : List ℕ) : Type 0 where
  again : Value
  ts : List Placed
  next : ℕ
  first : ℕ
  rest : List ℕ
  are : IsValue depth again ts
  same : SameValue v again
  utf8 : IsUtf8 text
  begins : text ≡ first ∷ rest
  no_word : is_word_byte first ≡ false
  read : (xs : List ℕ) → tokens 0 line (text ++ xs) ≡ ts ++ tokens 0 next xs

colon_no_word : is_word_byte 58 ≡ false
unfolding is_word_byte
colon_no_word = refl

blank_no_word : is_word_byte 32 ≡ false
unfolding is_word_byte
blank_no_word = refl

feed_no_word : is_word_byte 10 ≡ false
unfolding is_word_byte
feed_no_word = refl

utf8_feed : IsUtf8 (10 ∷ [])
utf8_feed = ascii_then 10 [] (omega arith) IsUtf8-nil

bare_again : (depth line : ℕ) (margin word : List ℕ) → IsWord word → ValueAgain depth (value.Bare word) line (58 ∷ 32 ∷ word ++ 10 ∷ [])
bare_again depth line margin word formed =
    record {
      again = value.Bare word;
      ts = on line token.Colon ∷ on line (token.Word word) ∷ [];
      next = line_behind 10 line;
      first = 58;
      rest = 32 ∷ word ++ 10 ∷ [];
      are = bare depth (value.Bare word) (on line token.Colon ∷ on line (token.Word word) ∷ []) word line line refl refl;
      same = same_bare (value.Bare word) (value.Bare word) word refl refl;
      utf8 = ascii_then 58 _ (omega arith) (ascii_then 32 _ (omega arith) (IsUtf8-append word (10 ∷ []) (utf8_word word formed) utf8_feed));
      begins = refl;
      no_word = colon_no_word;
      read = λ xs.
          tokens_colon line (32 ∷ (word ++ 10 ∷ []) ++ xs)
          ∙ ap (λ (us : List Placed). on line token.Colon ∷ us)
          (tokens_blank line ((word ++ 10 ∷ []) ++ xs)
          ∙ (ap (tokens 0 line) (append_assoc word (10 ∷ []) xs)
          ∙ (tokens_word line word 10 xs formed feed_no_word ∙ ap (λ (us : List Placed). on line (token.Word word) ∷ us) (tokens_feed line xs))));
    }

quoted_again : (depth line : ℕ) (margin text : List ℕ) → is_utf8 text ≡ true → ValueAgain depth (value.Quoted text) line (58 ∷ 32 ∷ quoted text ++ 10 ∷ [])
quoted_again depth line margin text formed =
    let one : joined ((line, text) ∷ []) ≡ text = append-nil text in
    record {
      again = value.Quoted text;
      ts = on line token.Colon ∷ on line (token.Text text) ∷ [];
      next = line_behind 10 line;
      first = 58;
      rest = 32 ∷ quoted text ++ 10 ∷ [];
      are = quoted_ depth (value.Quoted text) (on line token.Colon ∷ on line (token.Text text) ∷ []) line (line, text) [] (ap value.Quoted (sym one)) refl;
      same = same_quoted (value.Quoted text) (value.Quoted text) text refl refl;
      utf8 = ascii_then 58 _ (omega arith) (ascii_then 32 _ (omega arith) (IsUtf8-append (quoted text) (10 ∷ []) (utf8_quoted text (IsUtf8-from_is_utf8 text formed)) utf8_feed));
      begins = refl;
      no_word = colon_no_word;
      read = λ xs.
          tokens_colon line (32 ∷ (quoted text ++ 10 ∷ []) ++ xs)
          ∙ ap (λ (us : List Placed). on line token.Colon ∷ us)
          (tokens_blank line ((quoted text ++ 10 ∷ []) ++ xs)
          ∙ (ap (tokens 0 line) (append_assoc (quoted text) (10 ∷ []) xs)
          ∙ (tokens_quoted line text (10 ∷ xs) formed ∙ ap (λ (us : List Placed). on line (token.Text text) ∷ us) (tokens_feed line xs))));
    }

message_again : (depth line : ℕ) (margin : List ℕ) (fields : List Field) → depth < 64 → AreBlanks margin
    → FieldsAgain (depth + 1) fields (line_behind 10 line) (printed (margin ++ 32 ∷ 32 ∷ []) fields)
    → ValueAgain depth (value.Message fields) line (32 ∷ 123 ∷ 10 ∷ printed (margin ++ 32 ∷ 32 ∷ []) fields ++ margin ++ 125 ∷ 10 ∷ [])
message_again depth line margin fields shallow blanks inner =
    let text = printed (margin ++ 32 ∷ 32 ∷ []) fields in
    let close = on inner.next token.Close ∷ [] in
    let ts = on line token.Open ∷ (inner.ts ++ close) in
    record {
      again = value.Message inner.again;
      ts = ts;
      next = line_behind 10 inner.next;
      first = 32;
      rest = 123 ∷ 10 ∷ text ++ margin ++ 125 ∷ 10 ∷ [];
      are = message depth (value.Message inner.again) ts inner.again [] inner.ts line inner.next shallow (inl refl) inner.are refl refl;
      same = same_message (value.Message fields) (value.Message inner.again) fields inner.again inner.same refl refl;
      utf8 = ascii_then 32 _ (omega arith) (ascii_then 123 _ (omega arith) (ascii_then 10 _ (omega arith)
          (IsUtf8-append (text ++ margin) (125 ∷ 10 ∷ []) (IsUtf8-append text margin inner.utf8 (utf8_blanks margin blanks)) (ascii_then 125 _ (omega arith) utf8_feed))));
      begins = refl;
      no_word = blank_no_word;
      read = λ xs.
          let regrouped : ((text ++ margin) ++ 125 ∷ 10 ∷ []) ++ xs ≡ text ++ (margin ++ 125 ∷ 10 ∷ xs) =
          append_assoc (text ++ margin) (125 ∷ 10 ∷ []) xs ∙ append_assoc text margin (125 ∷ 10 ∷ xs) in
          tokens_blank line (123 ∷ 10 ∷ ((text ++ margin) ++ 125 ∷ 10 ∷ []) ++ xs)
          ∙ (tokens_open line (10 ∷ ((text ++ margin) ++ 125 ∷ 10 ∷ []) ++ xs)
          ∙ ap (λ (us : List Placed). on line token.Open ∷ us)
          (tokens_feed line (((text ++ margin) ++ 125 ∷ 10 ∷ []) ++ xs)
          ∙ (ap (tokens 0 (line_behind 10 line)) regrouped
          ∙ (inner.read (margin ++ 125 ∷ 10 ∷ xs)
          ∙ (ap (λ (us : List Placed). inner.ts ++ us)
          (tokens_margin inner.next margin (125 ∷ 10 ∷ xs) blanks
          ∙ (tokens_close inner.next (10 ∷ xs) ∙ ap (λ (us : List Placed). on inner.next token.Close ∷ us) (tokens_feed inner.next xs)))
          ∙ sym (append_assoc inner.ts close (tokens 0 (line_behind 10 inner.next) xs)))))));
    }

tokens-nil : (line : ℕ) → tokens 0 line [] ≡ []
unfolding tokens
tokens-nil line = refl

-- strings that are UTF-8 each are UTF-8 together
pub joined_utf8 : (strings : List (ℕ × List ℕ)) → AreFormed (string_tokens strings) → IsUtf8 (joined strings)
joined_utf8 [] h = IsUtf8-nil
joined_utf8 (s ∷ strings) h = IsUtf8-append s.1 (joined strings) (IsUtf8-from_is_utf8 s.1 h.0) (joined_utf8 strings h.1)

value_same : (depth line : ℕ) (v w : Value) (s t : List ℕ) → w ≡ v → t ≡ s → ValueAgain depth w line t → ValueAgain depth v line s
value_same depth line v w s t e f h =
    let P : Value → Type 0 = λ u. ValueAgain depth u line s in
    subst P e (subst (λ (x : List ℕ). ValueAgain depth w line x) f h)

no_fields_again : (depth line : ℕ) (margin : List ℕ) (fields : List Field) → fields ≡ [] → FieldsAgain depth fields line (printed margin fields)
no_fields_again depth line margin fields e =
    rw e
    (record { again = []; ts = []; next = line; are = none depth [] [] refl refl; same = same_none [] [] refl refl; utf8 = IsUtf8-nil; read = λ xs. refl })

one_more_again : (depth line : ℕ) (margin : List ℕ) (fields : List Field) (name : List ℕ) (old : ℕ) (v : Value) (more : List Field)
    → AreBlanks margin → IsWord name → is_name name ≡ true → fields ≡ record { name = name; line = old; value = v } ∷ more
    → (first : ValueAgain depth v line (printed_value margin v)) → FieldsAgain depth more first.next (printed margin more)
    → FieldsAgain depth fields line (printed margin fields)
one_more_again depth line margin fields name old v more blanks word is e first others =
    let text = margin ++ name ++ printed_value margin v in
    let same_text : printed margin fields ≡ text ++ printed margin more = ap (printed margin) e in
    let ts = on line (token.Word name) ∷ (first.ts ++ ([] ++ others.ts)) in
    rw same_text
    (record {
      again = record { name = name; line = line; value = first.again } ∷ others.again;
      ts = ts;
      next = others.next;
      are = one_more depth (record { name = name; line = line; value = first.again } ∷ others.again) ts name line first.again others.again
          first.ts [] others.ts is first.are (inl refl) others.are refl refl;
      same = same_more fields (record { name = name; line = line; value = first.again } ∷ others.again) name old line v first.again more others.again
          first.same others.same e refl;
      utf8 = IsUtf8-append text (printed margin more)
          (IsUtf8-append (margin ++ name) (printed_value margin v) (IsUtf8-append margin name (utf8_blanks margin blanks) (utf8_word name word)) first.utf8)
          others.utf8;
      read = λ xs. one_more_tokens xs;
    })
  where
    one_more_tokens : (xs : List ℕ)
        → tokens 0 line (((margin ++ name ++ printed_value margin v) ++ printed margin more) ++ xs)
        ≡ (on line (token.Word name) ∷ (first.ts ++ ([] ++ others.ts))) ++ tokens 0 others.next xs
    one_more_tokens xs =
        let behind = printed margin more ++ xs in
        let regrouped : ((margin ++ name ++ printed_value margin v) ++ printed margin more) ++ xs ≡ margin ++ (name ++ (printed_value margin v ++ behind)) =
        simp append_assoc in
        let cons : name ++ (printed_value margin v ++ behind) ≡ name ++ first.first ∷ (first.rest ++ behind) = ap (λ (ys : List ℕ). name ++ (ys ++ behind)) first.begins in
        let back : first.first ∷ (first.rest ++ behind) ≡ printed_value margin v ++ behind = ap (λ (ys : List ℕ). ys ++ behind) (sym first.begins) in
        ap (tokens 0 line) regrouped
        ∙ (tokens_margin line margin (name ++ (printed_value margin v ++ behind)) blanks
        ∙ (ap (tokens 0 line) cons
        ∙ (tokens_word line name first.first (first.rest ++ behind) word first.no_word
        ∙ ap (λ (us : List Placed). on line (token.Word name) ∷ us)
        (ap (tokens 0 line) back
        ∙ (first.read behind
        ∙ (ap (λ (us : List Placed). first.ts ++ us) (others.read xs)
        ∙ sym (append_assoc first.ts others.ts (tokens 0 others.next xs))))))))

mutual
  fields_again : (depth : ℕ) (fields : List Field) (ts : List Placed) → AreFields depth fields ts
      → (line : ℕ) (margin : List ℕ) → AreBlanks margin → AreFormed ts → FieldsAgain depth fields line (printed margin fields)
  fields_again depth fields ts (none _ _ _ e f) line margin blanks formed = no_fields_again depth line margin fields e
  fields_again depth fields ts (one_more _ _ _ name old v more value_ts separator_ts more_ts is value_is separator_is more_are e f) line margin blanks formed =
      let all = subst (λ (us : List Placed). AreFormed us) f formed in
      let parts = formed_parts value_ts (separator_ts ++ more_ts) all.1 in
      let others = formed_parts separator_ts more_ts parts.1 in
      let first = value_again depth v value_ts value_is line margin blanks parts.0 in
      one_more_again depth line margin fields name old v more blanks all.0 is e first
      (fields_again depth more more_ts more_are first.next margin blanks others.1)

  value_again : (depth : ℕ) (v : Value) (ts : List Placed) → IsValue depth v ts
      → (line : ℕ) (margin : List ℕ) → AreBlanks margin → AreFormed ts → ValueAgain depth v line (printed_value margin v)
  value_again depth v ts (bare _ _ _ word colon here e f) line margin blanks formed =
      let all = subst (λ (us : List Placed). AreFormed us) f formed in
      value_same depth line v (value.Bare word) (printed_value margin v) (58 ∷ 32 ∷ word ++ 10 ∷ []) (sym e) (ap (printed_value margin) (sym e))
      (bare_again depth line margin word all.1.0)
  value_again depth v ts (quoted_ _ _ _ colon first others e f) line margin blanks formed =
      let all = subst (λ (us : List Placed). AreFormed us) f formed in
      let text = joined (first ∷ others) in
      value_same depth line v (value.Quoted text) (printed_value margin v) (58 ∷ 32 ∷ quoted text ++ 10 ∷ []) (sym e) (ap (printed_value margin) (sym e))
      (quoted_again depth line margin text (is_utf8-from_IsUtf8 text (joined_utf8 (first ∷ others) all.1)))
  value_again depth v ts (message _ _ _ fields colon_ts inner_ts brace close shallow colon inner e f) line margin blanks formed =
      let all = subst (λ (us : List Placed). AreFormed us) f formed in
      let parts = formed_parts colon_ts (on brace token.Open ∷ (inner_ts ++ on close token.Close ∷ [])) all in
      let inside = formed_parts inner_ts (on close token.Close ∷ []) parts.1.1 in
      value_same depth line v (value.Message fields) (printed_value margin v)
      (32 ∷ 123 ∷ 10 ∷ printed (margin ++ 32 ∷ 32 ∷ []) fields ++ margin ++ 125 ∷ 10 ∷ []) (sym e)
      (sym (printed-Message margin fields) ∙ ap (printed_value margin) (sym e))
      (message_again depth line margin fields shallow blanks
      (fields_again (depth + 1) fields inner_ts inner (line_behind 10 line) (margin ++ 32 ∷ 32 ∷ []) (deeper_margin margin blanks) inside.0))

-- what reading the printed text of a tree gives, for each tree that tokens spell
pub spelled_again : (tree : List Field) (ts : List Placed) → AreFields 0 tree ts → AreFormed ts
    → (again : List Field) × (reading (printed [] tree) ≡ Ok again) × SameFields tree again
spelled_again tree ts are formed =
    let all = fields_again 0 tree ts are 1 [] tt formed in
    let whole : tokens 0 1 (printed [] tree) ≡ all.ts =
    ap (tokens 0 1) (sym (append-nil (printed [] tree))) ∙ (all.read [] ∙ no_more all.next all.ts) in
    let fields : AreFields 0 all.again (tokens 0 1 (printed [] tree)) = subst (λ (us : List Placed). AreFields 0 all.again us) (sym whole) all.are in (
      all.again,
      reading-spelled (printed [] tree) all.again (record { utf8 = is_utf8-from_IsUtf8 (printed [] tree) all.utf8; fields = fields }),
      all.same,
    )
  where
    no_more : (line : ℕ) (ts : List Placed) → ts ++ tokens 0 line [] ≡ ts
    no_more line ts = ap (λ (us : List Placed). ts ++ us) (tokens-nil line) ∙ append-nil ts

-- and for each tree that some text reads as
pub reads_again : (bytes : List ℕ) (tree : List Field) → reading bytes ≡ Ok tree
    → (again : List Field) × (reading (printed [] tree) ≡ Ok again) × SameFields tree again
reads_again bytes tree e = spelled_again tree (tokens 0 1 bytes) (spelled-reading bytes tree e).fields (tokens_formed 0 1 bytes)
