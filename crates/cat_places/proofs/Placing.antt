-- The place of a fault of a model.
use Rattle.std.proofs.Common.{◌≡◌, ℕ, zero, suc, ◌+◌, ◌<◌, ◌≤◌, List, [], ◌∷◌, ◌++◌, length, take, get_or, refl, ap, sym, subst, ◌∙◌, arith, inl, inr}
use Rattle.std.specs.Prelude.{Option, Some, None, MatchOption, option_map, slice_get, All}
use Rattle.std.proofs.lemmas.Bool.{cases_lt}
use Rattle.std.proofs.lemmas.List.Elements.{All-nil, All-cons, All-append, All-take, All-get_or}
use Rattle.std.proofs.lemmas.Option.{slice_get-get_or, slice_get_within, get_or_from_slice_get}
use Rattle.std.proofs.Math.Seq.{take-suc}
use Rattle.wb_text.specs.declared.token.Token.{Token}
use Rattle.cat_syntax.specs.Reads.{Reads}
use Rattle.cat_tree.specs.Tree.{File, Clause}
use Rattle.cat_model.specs.declared.fault.ModelFault.{ModelFault}
use Rattle.cat_places.specs.Blame.{IsBlamed}
use Rattle.cat_places.specs.Own.{IsFileOf}
use Rattle.cat_places.specs.Places.{AreRead, IsToldAt, IsToldIn, IsModelPlace}
use Rattle.cat_places.specs.Walks.{turn, items_of, listed, brought, visits_of, visits}
use Rattle.cat_places.specs.declared.source.Source.{Source}
use Rattle.cat_places.specs.declared.walk.Turn.{Turn}
use Rattle.cat_places.specs.declared.walk.Turn.TheVariants.{Own, BuiltIn, Into, Missing, Cycle, TooDeep}
use Rattle.cat_places.specs.declared.walk.Visit.{Visit}
use Rattle.cat_places.proofs.Walking.{take_short}

nothing : File
nothing = record { title = None; items = [] }

-- the file of a source
file_at : (ss : List Source) (fs : List File) (k : ℕ) (s : Source) → AreRead ss fs → slice_get ss k ≡ Some s → (slice_get fs k ≡ Some (get_or fs k nothing)) × Reads s.text.items (get_or fs k nothing)
file_at ss fs k s read e =
    let here : slice_get fs k ≡ Some (get_or fs k nothing) = slice_get-get_or fs k nothing (omega (arith, read.count, slice_get_within ss k s e)) in
    (here, read.each k s (get_or fs k nothing) e here)

source_at : (ss : List Source) (k : ℕ) (s : Source) → k < length ss → s ≡ get_or ss k s → slice_get ss k ≡ Some s
source_at ss k s h e = slice_get-get_or ss k s h ∙ ap Some (sym e)

pub none_read : (ss : List Source) (fs : List File) (k : ℕ) (s : Source) (text : List ℕ) (o : Option File) → k < length ss → s ≡ get_or ss k s → text ≡ s.text.items → o ≡ None → IsFileOf text o → ¬ AreRead ss fs
none_read ss fs k s text o h e t n is read =
    let f = file_at ss fs k s read (source_at ss k s h e) in
    subst (IsFileOf text) n is (get_or fs k nothing) (subst (λ l. Reads l (get_or fs k nothing)) (sym t) f.1)

pub read_more : (ss : List Source) (fs old new : List File) (k : ℕ) (s : Source) (text : List ℕ) (o : Option File) (g : File) → k < length ss → s ≡ get_or ss k s → text ≡ s.text.items → o ≡ Some g → IsFileOf text o →
    new ≡ old ++ g ∷ [] → AreRead ss fs → take k fs ≡ old → take (k + 1) fs ≡ new
read_more ss fs old new k s text o g h e t n is more read before =
    let f = file_at ss fs k s read (source_at ss k s h e) in
    let same : get_or fs k nothing ≡ g = (subst (IsFileOf text) n is).1 (get_or fs k nothing) (subst (λ l. Reads l (get_or fs k nothing)) (sym t) f.1) in
    let one : k + 1 ≡ suc k = omega arith in
    ap (λ n. take n fs) one ∙ take-suc fs k nothing (omega (arith, read.count, h)) ∙ ap (λ l. l ++ get_or fs k nothing ∷ []) before ∙ ap (λ x. old ++ x ∷ []) same ∙ sym more

pub all_read : (ss : List Source) (fs files : List File) (k : ℕ) → length ss ≤ k → AreRead ss fs → take k fs ≡ files → fs ≡ files
all_read ss fs files k h read e = sym (take_short k fs (omega (arith, h, read.count))) ∙ e

-- each visit is of a source that is there

abbrev IsThere : ℕ → Visit → Type 0
IsThere n v = v.source < n

listed_there : (n : ℕ) (ss : List Source) (brings : Turn → List Visit) (path : List ℕ) (s k : ℕ) (is : List Clause) → s < n → ((t : Turn) → All (IsThere n) (brings t)) → All (IsThere n) (listed ss brings path s k is)
listed_there n ss brings path s k [] h b = All-nil (IsThere n)
listed_there n ss brings path s k (i ∷ is) h b =
    All-cons (IsThere n) (record { source = s; item = k; turn = turn ss path i }) (brings (turn ss path i) ++ listed ss brings path s (k + 1) is) h
    (All-append (IsThere n) (brings (turn ss path i)) (listed ss brings path s (k + 1) is) (b (turn ss path i)) (listed_there n ss brings path s (k + 1) is h b))

file_there : (fs : List File) (s : ℕ) (P : List Clause → Type 0) → P [] → (s < length fs → P (items_of fs s)) → P (items_of fs s)
file_there fs s P none some = elim (cases_lt s (length fs)) [ inl h ↦ some h | inr h ↦ subst P (sym (past fs s h)) none ] where
  past : (fs : List File) (s : ℕ) → length fs ≤ s → items_of fs s ≡ []
  past [] s h = refl
  past (f ∷ fs) zero h = absurd (omega (arith, h))
  past (f ∷ fs) (suc s) h = past fs s (omega (arith, h))

of_file : (ss : List Source) (fs : List File) (brings : Turn → List Visit) (path : List ℕ) (s : ℕ) → ((t : Turn) → All (IsThere (length fs)) (brings t)) → All (IsThere (length fs)) (listed ss brings path s 0 (items_of fs s))
of_file ss fs brings path s b =
    file_there fs s (λ is. All (IsThere (length fs)) (listed ss brings path s 0 is)) (All-nil (IsThere (length fs)))
    (λ h. listed_there (length fs) ss brings path s 0 (items_of fs s) h b)

brought_there : (ss : List Source) (fs : List File) (depth : ℕ) (path : List ℕ) (t : Turn) → All (IsThere (length fs)) (brought ss fs depth path t)
brought_there ss fs zero path t = All-nil (IsThere (length fs))
brought_there ss fs (suc depth) path (Into s) = of_file ss fs (brought ss fs depth (path ++ s ∷ [])) (path ++ s ∷ []) s (brought_there ss fs depth (path ++ s ∷ []))
brought_there ss fs (suc depth) path Own = All-nil (IsThere (length fs))
brought_there ss fs (suc depth) path BuiltIn = All-nil (IsThere (length fs))
brought_there ss fs (suc depth) path Missing = All-nil (IsThere (length fs))
brought_there ss fs (suc depth) path Cycle = All-nil (IsThere (length fs))
brought_there ss fs (suc depth) path TooDeep = All-nil (IsThere (length fs))

visit_there : (ss : List Source) (fs : List File) (k : ℕ) (v : Visit) → slice_get (visits ss fs) k ≡ Some v → v.source < length fs
visit_there ss fs k v e =
    let all = All-take (IsThere (length fs)) 4097 (visits_of ss fs 15 (0 ∷ []) 0) (of_file ss fs (brought ss fs 15 (0 ∷ [])) (0 ∷ []) 0 (brought_there ss fs 15 (0 ∷ []))) in
    subst (IsThere (length fs)) (get_or_from_slice_get (visits ss fs) k v v e) (All-get_or (IsThere (length fs)) (visits ss fs) k v (slice_get_within (visits ss fs) k v e) all)

-- What is answered where files are read, and an item is to blame.

pub some_match : {A : Type 0} (o : Option A) (x : A) (P : Type 0) (Q : A → Type 0) → o ≡ Some x → MatchOption o P Q → Q x
some_match o x P Q e h = subst (λ y. MatchOption y P Q) e h

some_once : {A : Type 0} (x y : A) → Some x ≡ Some y → x ≡ y
some_once x y e = cc

pub nowhere_blamed : (ss : List Source) (gs : List File) (e : ModelFault) (r : Option (ℕ × ℕ)) (vs : List Visit) → ((fs : List File) → AreRead ss fs → fs ≡ gs) → vs ≡ visits ss gs →
    ((k : ℕ) → ¬ IsBlamed gs e vs k) → IsModelPlace ss e r
nowhere_blamed ss gs e r vs once is none = λ fs k v read blamed at.
    absurd (none k (subst (λ l. IsBlamed gs e l k) (sym is) (subst (λ f. IsBlamed f e (visits ss f) k) (once fs read) blamed)))

-- the visit that is to blame
blamed_visit : (ss : List Source) (gs : List File) (e : ModelFault) (vs : List Visit) (n : ℕ) → ((fs : List File) → AreRead ss fs → fs ≡ gs) → vs ≡ visits ss gs →
    ((k : ℕ) → IsBlamed gs e vs k → Some n ≡ Some k) → (fs : List File) (k : ℕ) (v : Visit) → AreRead ss fs → IsBlamed fs e (visits ss fs) k → slice_get (visits ss fs) k ≡ Some v → slice_get vs n ≡ Some v
blamed_visit ss gs e vs n once is only fs k v read blamed at =
    let same = once fs read in
    let number : n ≡ k = some_once n k (only k (subst (λ l. IsBlamed gs e l k) (sym is) (subst (λ f. IsBlamed f e (visits ss f) k) same blamed))) in
    ap (slice_get vs) number ∙ ap (λ l. slice_get l k) is ∙ ap (λ f. slice_get (visits ss f) k) (sym same) ∙ at

-- the visit that the code looks at is the one that is to blame
same_visit : (vs : List Visit) (n : ℕ) (w v : Visit) → w ≡ get_or vs n w → slice_get vs n ≡ Some v → w ≡ v
same_visit vs n w v e at = e ∙ get_or_from_slice_get vs n v w at

pub nowhere_sourced : (ss : List Source) (gs : List File) (e : ModelFault) (r : Option (ℕ × ℕ)) (vs : List Visit) (n : ℕ) (w : Visit) → ((fs : List File) → AreRead ss fs → fs ≡ gs) → vs ≡ visits ss gs →
    ((k : ℕ) → IsBlamed gs e vs k → Some n ≡ Some k) → w ≡ get_or vs n w → length ss ≤ w.source → IsModelPlace ss e r
nowhere_sourced ss gs e r vs n w once is only look past = λ fs k v read blamed at.
    let same : w ≡ v = same_visit vs n w v look (blamed_visit ss gs e vs n once is only fs k v read blamed at) in
    absurd (omega (arith, past, ap (λ (u : Visit). u.source) same, visit_there ss fs k v at, read.count))

pub told_moved : (fs gs : List File) (bs cs : List Visit) (v : Visit) (l m : List ℕ) (e : ModelFault) (o : Option Token) → fs ≡ gs → bs ≡ cs → l ≡ m → IsToldAt fs bs v l e o → IsToldAt gs cs v m e o
told_moved fs gs bs cs v l m e o a b c h = subst (λ f. IsToldAt f cs v m e o) a (subst (λ w. IsToldAt fs w v m e o) b (subst (λ t. IsToldAt fs bs v t e o) c h))

pub told_in : (ss : List Source) (gs : List File) (e : ModelFault) (r : Option (ℕ × ℕ)) (vs : List Visit) (n : ℕ) (w : Visit) (source : Source) (o : Option Token) → ((fs : List File) → AreRead ss fs → fs ≡ gs) → vs ≡ visits ss gs →
    ((k : ℕ) → IsBlamed gs e vs k → Some n ≡ Some k) → w ≡ get_or vs n w → w.source < length ss → source ≡ get_or ss w.source source →
    ((f : File) → Reads source.text.items f → IsToldAt gs (take n vs) w source.text.items e o) → r ≡ option_map (λ t. (w.source, t.from)) o → IsModelPlace ss e r
told_in ss gs e r vs n w source o once is only look inside found told is_r = λ fs k v read blamed at.
    let files = once fs read in
    let same : w ≡ v = same_visit vs n w v look (blamed_visit ss gs e vs n once is only fs k v read blamed at) in
    let number : n ≡ k = some_once n k (only k (subst (λ l. IsBlamed gs e l k) (sym is) (subst (λ f. IsBlamed f e (visits ss f) k) files blamed))) in
    let before : take n vs ≡ take k (visits ss fs) = ap (λ m. take m vs) number ∙ ap (take k) (is ∙ ap (visits ss) (sym files)) in
    let there = source_at ss w.source source inside found in
    let here = told_moved gs fs (take n vs) (take k (visits ss fs)) w source.text.items source.text.items e o (sym files) before refl (told (get_or fs w.source nothing) (file_at ss fs w.source source read there).1) in
    subst (λ u. IsToldIn ss fs (take k (visits ss fs)) e u r) same (record { source = source; at = there; token = o; told = here; is = is_r })
