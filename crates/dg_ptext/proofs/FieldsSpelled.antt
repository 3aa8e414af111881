-- Trees that the grammar spells, field by field.
use Rattle.std.proofs.Common.{◌≡◌, ℕ, ◌+◌, ◌<◌, ◌⊎◌, inl, inr, true, List, [], ◌∷◌, ◌++◌, refl, sym, ap, subst, append-nil}
use Rattle.std.specs.List.{AllByRecursion}
use Rattle.std.specs.Str.{is_utf8}
use Rattle.std.specs.Prelude.{Ok}
use Rattle.std.proofs.lemmas.Str.{is_utf8-from_IsUtf8}
use Rattle.dg_text.specs.Names.{is_name}
use Rattle.dg_ptext.specs.declared.tree.Field.{Field}
use Rattle.dg_ptext.specs.declared.tree.Value.{Value}
use Rattle.dg_ptext.specs.declared.tree.Value.TheVariants as value
use Rattle.dg_ptext.specs.declared.token.Token.TheVariants as token
use Rattle.dg_ptext.specs.Token.{Placed, tokens}
use Rattle.dg_ptext.specs.Grammar.{on, string_tokens, joined, AreFields, IsValue}
use Rattle.dg_ptext.specs.Grammar.AreFields.{none, one_more}
use Rattle.dg_ptext.specs.Grammar.IsValue.{bare, quoted, message}
use Rattle.dg_ptext.specs.Printed.{printed}
use Rattle.dg_ptext.specs.Reading.{reading}
use Rattle.dg_ptext.specs.Same.{SameFields}
use Rattle.dg_ptext.proofs.WordBytes.{IsWord}
use Rattle.dg_ptext.proofs.TokenForms.{AreFormed, formed_parts, tokens_formed}
use Rattle.dg_ptext.proofs.ReadIsSpelled.{spelled-reading}
use Rattle.dg_ptext.proofs.ReadBack.{joined_utf8, spelled_again}

pub record IsSpelledValue (depth : ℕ) (v : Value) : Type 0 where
  pub ts : List Placed
  pub is : IsValue depth v ts
  pub formed : AreFormed ts

pub record IsSpelledField (depth : ℕ) (f : Field) : Type 0 where
  pub named : is_name f.name ≡ true
  pub word : IsWord f.name
  pub value : IsSpelledValue depth f.value

abbrev pub AreSpelled : ℕ → List Field → Type 0
AreSpelled depth fields = AllByRecursion (IsSpelledField depth) fields

formed_behind : (ts us : List Placed) → AreFormed ts → AreFormed us → AreFormed (ts ++ us)
formed_behind [] us h k = k
formed_behind (t ∷ ts) us h k = (h.0, formed_behind ts us h.1 k)

-- ---- from fields to each of them, and back

each_spelled : (depth : ℕ) (fields : List Field) (ts : List Placed) → AreFields depth fields ts → AreFormed ts → AreSpelled depth fields
each_spelled depth fields ts (none _ _ _ e f) formed = subst (λ (fs : List Field). AreSpelled depth fs) (sym e) tt
each_spelled depth fields ts (one_more _ _ _ label line v more value_ts separator_ts more_ts is value_is separator_is more_are e f) formed =
    let all = subst (λ (us : List Placed). AreFormed us) f formed in
    let parts = formed_parts value_ts (separator_ts ++ more_ts) all.1 in
    let others = formed_parts separator_ts more_ts parts.1 in
    subst (λ (fs : List Field). AreSpelled depth fs) (sym e) (
      record { named = is; word = all.0; value = record { ts = value_ts; is = value_is; formed = parts.0 } },
      each_spelled depth more more_ts more_are others.1,
    )

all_spelled : (depth : ℕ) (fields : List Field) → AreSpelled depth fields → (ts : List Placed) × AreFields depth fields ts × AreFormed ts
all_spelled depth [] h = ([], none depth [] [] refl refl, tt)
all_spelled depth (f ∷ fs) h =
    let rest = all_spelled depth fs h.1 in
    let v = h.0.value in
    let ts = on f.line (token.Word f.name) ∷ (v.ts ++ ([] ++ rest.0)) in (
      ts,
      one_more depth (f ∷ fs) ts f.name f.line f.value fs v.ts [] rest.0 h.0.named v.is (inl refl) rest.1 refl refl,
      (h.0.word, formed_behind v.ts rest.0 v.formed rest.2),
    )

-- ---- values

pub word_spelled : (depth : ℕ) (word : List ℕ) → IsWord word → IsSpelledValue depth (value.Bare word)
word_spelled depth word h =
    let ts = on 1 token.Colon ∷ on 1 (token.Word word) ∷ [] in
    record { ts = ts; is = bare depth (value.Bare word) ts word 1 1 refl refl; formed = (tt, (h, tt)) }

pub text_spelled : (depth : ℕ) (text : List ℕ) → is_utf8 text ≡ true → IsSpelledValue depth (value.Quoted text)
text_spelled depth text h =
    let ts = on 1 token.Colon ∷ string_tokens ((1, text) ∷ []) in
    record {
      ts = ts;
      is = quoted depth (value.Quoted text) ts 1 (1, text) [] (ap value.Quoted (sym (append-nil text))) refl;
      formed = (tt, (h, tt));
    }

pub message_spelled : (depth : ℕ) (fields : List Field) → depth < 64 → AreSpelled (depth + 1) fields → IsSpelledValue depth (value.Message fields)
message_spelled depth fields shallow h =
    let inner = all_spelled (depth + 1) fields h in
    let close = on 1 token.Close ∷ [] in
    let ts = [] ++ on 1 token.Open ∷ (inner.0 ++ close) in
    record {
      ts = ts;
      is = message depth (value.Message fields) ts fields [] inner.0 1 1 shallow (inl refl) inner.1 refl refl;
      formed = (tt, formed_behind inner.0 close inner.2 (tt, tt));
    }

-- a value that is spelled is a word, a text in UTF-8, or a message of fields that are spelled
abbrev pub IsOfForm : ℕ → Value → Type 0
IsOfForm depth v =
    ((word : List ℕ) × (v ≡ value.Bare word))
    ⊎ (((text : List ℕ) × (v ≡ value.Quoted text) × (is_utf8 text ≡ true))
    ⊎ ((fields : List Field) × (v ≡ value.Message fields) × AreSpelled (depth + 1) fields))

formed_value : (depth : ℕ) (v : Value) (ts : List Placed) → IsValue depth v ts → AreFormed ts → IsOfForm depth v
formed_value depth v ts (bare _ _ _ word colon line e f) formed = inl (word, e)
formed_value depth v ts (quoted _ _ _ colon first others e f) formed =
    let all = subst (λ (us : List Placed). AreFormed us) f formed in
    let text = joined (first ∷ others) in
    inr (inl (text, e, is_utf8-from_IsUtf8 text (joined_utf8 (first ∷ others) all.1)))
formed_value depth v ts (message _ _ _ fields colon_ts inner_ts brace close shallow colon inner e f) formed =
    let all = subst (λ (us : List Placed). AreFormed us) f formed in
    let parts = formed_parts colon_ts (on brace token.Open ∷ (inner_ts ++ on close token.Close ∷ [])) all in
    let within = formed_parts inner_ts (on close token.Close ∷ []) parts.1.1 in
    inr (inr (fields, e, each_spelled (depth + 1) fields inner_ts inner within.0))

pub form_of : (depth : ℕ) (v : Value) → IsSpelledValue depth v → IsOfForm depth v
form_of depth v h = formed_value depth v h.ts h.is h.formed

-- ---- texts

pub tree_spelled : (bytes : List ℕ) (tree : List Field) → reading bytes ≡ Ok tree → AreSpelled 0 tree
tree_spelled bytes tree e = each_spelled 0 tree (tokens 0 1 bytes) (spelled-reading bytes tree e).fields (tokens_formed 0 1 bytes)

pub spelled_reads : (tree : List Field) → AreSpelled 0 tree → (again : List Field) × (reading (printed [] tree) ≡ Ok again) × SameFields tree again
spelled_reads tree h =
    let all = all_spelled 0 tree h in
    spelled_again tree all.0 all.1 all.2
