-- Deeds in two parts, the lines among deeds, whole files, and lines alone.
use Rattle.std.proofs.Common.{◌≡◌, ◌≢◌, ℕ, arith, zero, suc, ◌+◌, ◌<◌, List, [], ◌∷◌, ◌++◌, map, length, take, drop, get_or, Option, Some, None, refl, sym, ap, ◌∙◌, subst, inl, inr, append_assoc, append-nil}
use Rattle.std.proofs.Math.Seq.{drop-cons}
use Rattle.std.proofs.lemmas.Grind.{take_at_read}
use Rattle.std.proofs.lemmas.List.{take-append-drop}
use Rattle.std.specs.Prelude.{Result, Ok, Err}
use Rattle.std.specs.Result.{IsErr, IsErrAnd, IfErr}
use Rattle.std.specs.Option.{option_map}
use Rattle.dg_files.specs.Tree.{Tree}
use Rattle.dg_deeds.specs.declared.deed.Deed.{Deed}
use Rattle.dg_deeds.specs.declared.deed.Deed.TheVariants.{Write, Put}
use Rattle.dg_deeds.specs.declared.deed.Stop.{Stop}
use Rattle.dg_deeds.specs.declared.deed.Stop.TheVariants as stop
use Rattle.dg_deeds.specs.Printed.{text_of, GotPrefix}
use Rattle.dg_deeds.specs.Deeds.{AreLines, IsLine, tree_with, tree_after, text_with, text_after, lines_in, IsUntouched, IsPartOf, IsBehindAll, IsBegun}
use Rattle.dg_deeds.proofs.Sinks.{GotPrefix-nothing, GotPrefix-front, GotPrefix-behind}

-- ---- two parts

pub tree_after-append : (ds es : List Deed) (tree : Tree) → tree_after (ds ++ es) tree ≡ tree_after es (tree_after ds tree)
tree_after-append [] es tree = refl
tree_after-append (d ∷ ds) es tree = tree_after-append ds es (tree_with d tree)

pub text_after-append : (ds es : List Deed) (text : List ℕ) → text_after (ds ++ es) text ≡ text_after es (text_after ds text)
text_after-append [] es text = refl
text_after-append (d ∷ ds) es text = text_after-append ds es (text_with d text)

-- the same where they are told
pub tree_after-told : (ds es : List Deed) (tree : Option Tree) →
    option_map (tree_after (ds ++ es)) tree ≡ option_map (tree_after es) (option_map (tree_after ds) tree)
tree_after-told ds es None = refl
tree_after-told ds es (Some tree) = ap Some (tree_after-append ds es tree)

pub text_after-told : (ds es : List Deed) (text : Option (List ℕ)) →
    option_map (text_after (ds ++ es)) text ≡ option_map (text_after es) (option_map (text_after ds) text)
text_after-told ds es None = refl
text_after-told ds es (Some text) = ap Some (text_after-append ds es text)

tree_after-none : (tree : Option Tree) → option_map (tree_after []) tree ≡ tree
tree_after-none None = refl
tree_after-none (Some tree) = refl

text_after-none : (text : Option (List ℕ)) → option_map (text_after []) text ≡ text
text_after-none None = refl
text_after-none (Some text) = refl

tree_after-more : (d : Deed) (ds : List Deed) (tree : Option Tree) →
    option_map (tree_after (d ∷ ds)) tree ≡ option_map (tree_after ds) (option_map (tree_with d) tree)
tree_after-more d ds None = refl
tree_after-more d ds (Some tree) = refl

text_after-more : (d : Deed) (ds : List Deed) (text : Option (List ℕ)) →
    option_map (text_after (d ∷ ds)) text ≡ option_map (text_after ds) (option_map (text_with d) text)
text_after-more d ds None = refl
text_after-more d ds (Some text) = refl

-- where memory was wanted, nothing done is a beginning of any deeds
pub IsBegun-untouched : (ds : List Deed) (tree tree_now : Option Tree) (text text_now : Option (List ℕ)) →
    IsUntouched tree tree_now text text_now → IsBegun stop.NoMemory ds tree tree_now text text_now
IsBegun-untouched [] tree tree_now text text_now same = same
IsBegun-untouched (Write path bytes ∷ ds) tree tree_now text text_now same = inl same
IsBegun-untouched (Put line ∷ ds) tree tree_now text text_now same = inl (same.0, GotPrefix-nothing text text_now line same.1)

-- what is begun of the first part is begun of both
pub IsBegun-first : (s : Stop) (ds es : List Deed) (tree tree_now : Option Tree) (text text_now : Option (List ℕ)) →
    IsBegun s ds tree tree_now text text_now → IsBegun s (ds ++ es) tree tree_now text text_now
IsBegun-first stop.FileFault [] es tree tree_now text text_now begun = absurd begun
IsBegun-first stop.SinkFault [] es tree tree_now text text_now begun = absurd begun
IsBegun-first stop.NoMemory [] es tree tree_now text text_now begun = IsBegun-untouched es tree tree_now text text_now begun
IsBegun-first s (d ∷ ds) es tree tree_now text text_now (inl part) = inl part
IsBegun-first s (d ∷ ds) es tree tree_now text text_now (inr rest) =
    inr (IsBegun-first s ds es (option_map (tree_with d) tree) tree_now (option_map (text_with d) text) text_now rest)

-- what is begun of the second part behind all of the first is begun of both
pub IsBegun-second : (s : Stop) (ds es : List Deed) (tree tree_now : Option Tree) (text text_now : Option (List ℕ)) →
    IsBegun s es (option_map (tree_after ds) tree) tree_now (option_map (text_after ds) text) text_now →
    IsBegun s (ds ++ es) tree tree_now text text_now
IsBegun-second s [] es tree tree_now text text_now begun =
    subst (λ t. IsBegun s es t tree_now text text_now) (tree_after-none tree)
    (subst (λ b. IsBegun s es (option_map (tree_after []) tree) tree_now b text_now) (text_after-none text) begun)
IsBegun-second s (d ∷ ds) es tree tree_now text text_now begun =
    inr (IsBegun-second s ds es (option_map (tree_with d) tree) tree_now (option_map (text_with d) text) text_now
    (subst (λ t. IsBegun s es t tree_now (option_map (text_after ds) (option_map (text_with d) text)) text_now) (tree_after-more d ds tree)
    (subst (λ b. IsBegun s es (option_map (tree_after (d ∷ ds)) tree) tree_now b text_now) (text_after-more d ds text) begun)))

-- ---- the deeds before the i-th, the i-th, and the others

take-next : (ds : List Deed) (i : ℕ) (d : Deed) → d ≡ get_or ds i d → i < length ds → take (i + 1) ds ≡ take i ds ++ d ∷ []
take-next ds i d is lt = (take_at_read ds i d lt).1 ∙ ap (λ e. take i ds ++ e ∷ []) (sym is)

pub tree_after-take : (ds : List Deed) (i : ℕ) (d : Deed) (before between now : Option Tree) → d ≡ get_or ds i d → i < length ds →
    between ≡ option_map (tree_after (take i ds)) before → now ≡ option_map (tree_with d) between →
    now ≡ option_map (tree_after (take (i + 1) ds)) before
tree_after-take ds i d before between now is lt e f =
    f ∙ ap (option_map (tree_with d)) e ∙ sym (tree_after-told (take i ds) (d ∷ []) before)
    ∙ ap (λ es. option_map (tree_after es) before) (sym (take-next ds i d is lt))

pub text_after-take : (ds : List Deed) (i : ℕ) (d : Deed) (before between now : Option (List ℕ)) → d ≡ get_or ds i d → i < length ds →
    between ≡ option_map (text_after (take i ds)) before → now ≡ option_map (text_with d) between →
    now ≡ option_map (text_after (take (i + 1) ds)) before
text_after-take ds i d before between now is lt e f =
    f ∙ ap (option_map (text_with d)) e ∙ sym (text_after-told (take i ds) (d ∷ []) before)
    ∙ ap (λ es. option_map (text_after es) before) (sym (take-next ds i d is lt))

-- a part of the i-th behind all before it
pub IsBegun-at : (s : Stop) (ds : List Deed) (i : ℕ) (d : Deed) (tree tree_between tree_now : Option Tree) (text text_between text_now : Option (List ℕ)) →
    d ≡ get_or ds i d → i < length ds →
    tree_between ≡ option_map (tree_after (take i ds)) tree → text_between ≡ option_map (text_after (take i ds)) text →
    IsPartOf s d tree_between tree_now text_between text_now → IsBegun s ds tree tree_now text text_now
IsBegun-at s ds i d tree tree_between tree_now text text_between text_now is lt e f part =
    let rest = drop (suc i) ds in
    let head : drop i ds ≡ d ∷ rest = drop-cons ds i d lt ∙ ap (λ x. x ∷ rest) (sym is) in
    let all : take i ds ++ d ∷ rest ≡ ds = ap (λ es. take i ds ++ es) (sym head) ∙ take-append-drop i ds in
    let next : IsPartOf s d (option_map (tree_after (take i ds)) tree) tree_now (option_map (text_after (take i ds)) text) text_now =
    subst (λ t. IsPartOf s d t tree_now (option_map (text_after (take i ds)) text) text_now) e
    (subst (λ b. IsPartOf s d tree_between tree_now b text_now) f part) in
    subst (λ es. IsBegun s es tree tree_now text text_now) all
    (IsBegun-second s (take i ds) (d ∷ rest) tree tree_now text text_now (inl next))

-- the error that a `?` hands on
pub IfErr-handed : {T E : Type 0} (P : E → Type 0) (r : Result T E) (e : E) → IsErr r × IsErrAnd r (λ x. x ≡ e) → P e → IfErr r P
IfErr-handed P (Ok x) e is p = tt
IfErr-handed P (Err x) e is p = subst P (sym is.1) p

-- ---- the lines among deeds

pub text_after-lines : (ds : List Deed) (text : List ℕ) → text_after ds text ≡ text ++ text_of (lines_in ds)
text_after-lines [] text = sym (append-nil text)
text_after-lines (Write path bytes ∷ ds) text = text_after-lines ds text
text_after-lines (Put line ∷ ds) text = text_after-lines ds (text ++ line) ∙ append_assoc text line (text_of (lines_in ds))

text_with-write : (path bytes : List ℕ) (text : Option (List ℕ)) → option_map (text_with (Write path bytes)) text ≡ text
text_with-write path bytes None = refl
text_with-write path bytes (Some text) = refl

kept_text : (s : Stop) (path bytes : List ℕ) (tree tree_now : Option Tree) (text text_now : Option (List ℕ)) →
    IsPartOf s (Write path bytes) tree tree_now text text_now → text_now ≡ text
kept_text stop.FileFault path bytes tree tree_now text text_now part = part.1
kept_text stop.SinkFault path bytes tree tree_now text text_now part = absurd part
kept_text stop.NoMemory path bytes tree tree_now text text_now part = part.1

part_of_line : (s : Stop) (line : List ℕ) (tree tree_now : Option Tree) (text text_now : Option (List ℕ)) →
    IsPartOf s (Put line) tree tree_now text text_now → (tree_now ≡ tree) × GotPrefix text text_now line
part_of_line stop.FileFault line tree tree_now text text_now part = absurd part
part_of_line stop.SinkFault line tree tree_now text text_now part = part
part_of_line stop.NoMemory line tree tree_now text text_now part = part

-- behind all of them nothing more is done
untouched_behind : (s : Stop) (tree tree_now : Option Tree) (text text_now : Option (List ℕ)) →
    IsBehindAll s tree tree_now text text_now → IsUntouched tree tree_now text text_now
untouched_behind stop.FileFault tree tree_now text text_now behind = absurd behind
untouched_behind stop.SinkFault tree tree_now text text_now behind = absurd behind
untouched_behind stop.NoMemory tree tree_now text text_now behind = behind

pub GotPrefix-begun : (s : Stop) (ds : List Deed) (tree tree_now : Option Tree) (text text_now : Option (List ℕ)) →
    IsBegun s ds tree tree_now text text_now → GotPrefix text text_now (text_of (lines_in ds))
GotPrefix-begun s [] tree tree_now text text_now behind =
    GotPrefix-nothing text text_now [] (untouched_behind s tree tree_now text text_now behind).1
GotPrefix-begun s (Write path bytes ∷ ds) tree tree_now text text_now (inl part) =
    GotPrefix-nothing text text_now (text_of (lines_in ds)) (kept_text s path bytes tree tree_now text text_now part)
GotPrefix-begun s (Put line ∷ ds) tree tree_now text text_now (inl part) =
    GotPrefix-front text text_now line (text_of (lines_in ds)) (part_of_line s line tree tree_now text text_now part).1
GotPrefix-begun s (Write path bytes ∷ ds) tree tree_now text text_now (inr rest) =
    subst (λ b. GotPrefix b text_now (text_of (lines_in ds))) (text_with-write path bytes text)
    (GotPrefix-begun s ds (option_map (tree_with (Write path bytes)) tree) tree_now (option_map (text_with (Write path bytes)) text) text_now rest)
GotPrefix-begun s (Put line ∷ ds) tree tree_now text text_now (inr rest) =
    GotPrefix-behind text (option_map (text_with (Put line)) text) text_now line (text_of (lines_in ds)) refl
    (GotPrefix-begun s ds (option_map (tree_with (Put line)) tree) tree_now (option_map (text_with (Put line)) text) text_now rest)

-- ---- whole files

kept_tree : (s : Stop) (d : Deed) (tree tree_now : Option Tree) (text text_now : Option (List ℕ)) → s ≢ stop.FileFault →
    IsPartOf s d tree tree_now text text_now → tree_now ≡ tree
kept_tree stop.FileFault d tree tree_now text text_now differs part = absurd (differs refl)
kept_tree stop.SinkFault (Write path bytes) tree tree_now text text_now differs part = absurd part
kept_tree stop.SinkFault (Put line) tree tree_now text text_now differs part = part.0
kept_tree stop.NoMemory (Write path bytes) tree tree_now text text_now differs part = part.0
kept_tree stop.NoMemory (Put line) tree tree_now text text_now differs part = part.0

-- where it wasn't the files that failed, the tree is that behind the first deeds
pub tree_after-begun : (s : Stop) (ds : List Deed) (tree tree_now : Option Tree) (text text_now : Option (List ℕ)) → s ≢ stop.FileFault →
    IsBegun s ds tree tree_now text text_now → (n : ℕ) × (tree_now ≡ option_map (tree_after (take n ds)) tree)
tree_after-begun s [] tree tree_now text text_now differs behind =
    (0, (untouched_behind s tree tree_now text text_now behind).0 ∙ sym (tree_after-none tree))
tree_after-begun s (d ∷ ds) tree tree_now text text_now differs (inl part) =
    (0, kept_tree s d tree tree_now text text_now differs part ∙ sym (tree_after-none tree))
tree_after-begun s (d ∷ ds) tree tree_now text text_now differs (inr rest) =
    let behind = tree_after-begun s ds (option_map (tree_with d) tree) tree_now (option_map (text_with d) text) text_now differs rest in
    (suc behind.0, behind.1 ∙ sym (tree_after-more d (take behind.0 ds) tree))

-- ---- lines alone

pub lines_in-lines : (lines : List (List ℕ)) → lines_in (map Put lines) ≡ lines
lines_in-lines [] = refl
lines_in-lines (line ∷ lines) = ap (λ ls. line ∷ ls) (lines_in-lines lines)

pub tree_after-lines : (lines : List (List ℕ)) (tree : Tree) → tree_after (map Put lines) tree ≡ tree
tree_after-lines [] tree = refl
tree_after-lines (line ∷ lines) tree = tree_after-lines lines tree

tree_with-put : (line : List ℕ) (tree : Option Tree) → option_map (tree_with (Put line)) tree ≡ tree
tree_with-put line None = refl
tree_with-put line (Some tree) = refl

pub IsBegun-lines : (s : Stop) (lines : List (List ℕ)) (tree tree_now : Option Tree) (text text_now : Option (List ℕ)) →
    IsBegun s (map Put lines) tree tree_now text text_now → tree_now ≡ tree
IsBegun-lines s [] tree tree_now text text_now behind = (untouched_behind s tree tree_now text text_now behind).0
IsBegun-lines s (line ∷ lines) tree tree_now text text_now (inl part) = (part_of_line s line tree tree_now text text_now part).0
IsBegun-lines s (line ∷ lines) tree tree_now text text_now (inr rest) =
    IsBegun-lines s lines (option_map (tree_with (Put line)) tree) tree_now (option_map (text_with (Put line)) text) text_now rest
    ∙ tree_with-put line tree

-- a fault of the files never stops lines alone
pub IsBegun-lines-fault : (lines : List (List ℕ)) (tree tree_now : Option Tree) (text text_now : Option (List ℕ)) →
    IsBegun stop.FileFault (map Put lines) tree tree_now text text_now → ⊥
IsBegun-lines-fault [] tree tree_now text text_now behind = behind
IsBegun-lines-fault (line ∷ lines) tree tree_now text text_now (inl part) = part
IsBegun-lines-fault (line ∷ lines) tree tree_now text text_now (inr rest) =
    IsBegun-lines-fault lines (option_map (tree_with (Put line)) tree) tree_now (option_map (text_with (Put line)) text) text_now rest

-- any other stop leaves one line begun where a first part of it was put
pub IsBegun-line : (s : Stop) → s ≢ stop.FileFault → (line : List ℕ) (tree tree_now : Option Tree) (text text_now : Option (List ℕ)) →
    tree_now ≡ tree → GotPrefix text text_now line → IsBegun s (Put line ∷ []) tree tree_now text text_now
IsBegun-line stop.FileFault differs line tree tree_now text text_now same part = absurd (differs refl)
IsBegun-line stop.SinkFault differs line tree tree_now text text_now same part = inl (same, part)
IsBegun-line stop.NoMemory differs line tree tree_now text text_now same part = inl (same, part)

-- the i-th of lines alone is one
pub line-at : (ds : List Deed) (i : ℕ) (d : Deed) → AreLines ds → d ≡ get_or ds i d → i < length ds → IsLine d
line-at [] i d are is lt = absurd (omega (arith, lt))
line-at (e ∷ ds) zero d are is lt = subst IsLine (sym is) are.0
line-at (e ∷ ds) (suc i) d are is lt = line-at ds i d are.1 is (omega (arith, lt))

pub lines-are : (lines : List (List ℕ)) → AreLines (map Put lines)
lines-are [] = tt
lines-are (line ∷ lines) = (tt, lines-are lines)

pub lines-first : (ds es : List Deed) → AreLines (ds ++ es) → AreLines ds
lines-first [] es are = tt
lines-first (d ∷ ds) es are = (are.0, lines-first ds es are.1)

pub lines-second : (ds es : List Deed) → AreLines (ds ++ es) → AreLines es
lines-second [] es are = are
lines-second (d ∷ ds) es are = lines-second ds es are.1
