-- Walks, and what they add.
use Rattle.std.proofs.Common.{◌≡◌, ◌≢◌, ℕ, zero, suc, ◌+◌, ◌-◌, ◌<◌, ◌≤◌, List, [], ◌∷◌, ◌++◌, Some, true, false, cond, take, drop, length, map, get_or, refl, sym, ◌∙◌, inl, inr, subst, arith, ap, append_assoc, append-nil, IsSome, Bor}
use Rattle.std.specs.List.{Contains, sum_by}
use Rattle.std.proofs.lemmas.List.Sums.{sum_by-append, sum_by-cons}
use Rattle.std.proofs.lemmas.Map.Views.{Contains-from_any}
use Rattle.std.proofs.lemmas.Slice.Eq.{bytes_eq-Decides}
use Rattle.std.proofs.lemmas.List.{take_more, take-append-drop, length-map}
use Rattle.cat_model.proofs.Listed.{told}
use Rattle.std.specs.declared.alloc.Global.{Global}
use Rattle.std.specs.declared.vec.Vec.{Vec}
use Rattle.cat_tree.specs.declared.tree.Item.{Item}
use Rattle.cat_tree.specs.Tree.{Word, Clause, bind, bind_recursively, check, include, show, unshow, File, clause_of}
use Rattle.cat_model.specs.Closure.{IsPath, IsOwn, is_on, count, sum_in}
use Rattle.cat_model.specs.Faults.{IsAstray}
use Rattle.cat_model.specs.Files.{file_of}
use Rattle.cat_model.specs.Walks.{Walks, walk_end, walk_own, walk_into, note, note_all, Grows, counts_for, Places, IsWalkFault, IsHere}
use Rattle.cat_model.specs.declared.draft.Draft.{Draft}
use Rattle.cat_model.specs.declared.fault.ModelFault.{ModelFault}
use Rattle.cat_model.specs.declared.fault.ModelFault.TheVariants.{NoCat, NoInclude, IncludeCycle, Unbound, WrongSort, NotMonotone, FlagWithoutName, ModelTooLarge, CallsTooLarge, NoMemory}
use Rattle.cat_model.specs.declared.files.Entry.{Entry}
use Rattle.cat_model.specs.declared.model.FileVersion.{FileVersion}

-- one walk and then another
pub walks-append : {es : List Entry} {path : List Word} {is js ks ls : List Clause} {xs ys : List Word} →
    Walks es path is js xs → Walks es path ks ls ys → Walks es path (is ++ ks) (js ++ ls) (xs ++ ys)
walks-append walk_end w = w
walks-append (walk_own o v) w = walk_own o (walks-append v w)
walks-append {es} {ks = ks} {ls = ls} {ys = ys} (walk_into {path} {x} {f} {is} {js} {ks = ms} {xs} {ys = zs} e o l u v) w =
    subst (λ us. Walks es path (include x ∷ (is ++ ks)) us (x ∷ ((zs ++ xs) ++ ys))) (sym (append_assoc ms js ls))
    (subst (λ us. Walks es path (include x ∷ (is ++ ks)) (ms ++ (js ++ ls)) (x ∷ us)) (sym (append_assoc zs xs ys))
    (walk_into e o l u (walks-append v w)))

pub note_all-append : (es : List Entry) (files : List FileVersion) (xs ys : List Word) → note_all es files (xs ++ ys) ≡ note_all es (note_all es files xs) ys
note_all-append es files [] ys = refl
note_all-append es files (x ∷ xs) ys = note_all-append es (note es files x) xs ys

pub counts-append : (es : List Entry) (path : List Word) (is js : List Clause) → counts_for es path (is ++ js) ≡ counts_for es path is + counts_for es path js
counts-append es path is js = sum_by-append (count es (16 - length path) path) is js

-- one part is placed and then another
pub places-append : (es : List Entry) (path : List Word) (is js : List Clause) (old mid new : Draft) →
    Places es path is old mid → Places es path js mid new → Places es path (is ++ js) old new
places-append es path is js old mid new p q = record {
  added = p.added ++ q.added;
  read = p.read ++ q.read;
  walks = walks-append p.walks q.walks;
  grows = record {
    items = q.grows.items ∙ (ap (λ (us : List Clause). us ++ q.added) p.grows.items ∙ append_assoc (map clause_of old.items.items) p.added q.added);
    files = q.grows.files ∙ (ap (λ fs. note_all es fs q.read) p.grows.files ∙ sym (note_all-append es old.files.items p.read q.read));
    counts = omega (arith, q.grows.counts, p.grows.counts, counts-append es path is js);
  };
}

-- nothing is placed
pub places-none : (es : List Entry) (path : List Word) (draft : Draft) → Places es path [] draft draft
places-none es path draft = record {
  added = [];
  read = [];
  walks = walk_end;
  grows = record { items = sym (append-nil (map clause_of draft.items.items)); files = refl; counts = omega arith };
}

-- a fault at some count is one at a larger count
pub fault-more : (e : ModelFault) (es : List Entry) (root : Word) (m n : ℕ) → m ≤ n → IsWalkFault e es root m → IsWalkFault e es root n
fault-more (NoInclude x) es root m n l h = h
fault-more (IncludeCycle x) es root m n l h = h
fault-more ModelTooLarge es root m n l h = elim h [ inl p ↦ inl p | inr g ↦ inr (omega arith) ]
fault-more NoMemory es root m n l h = h
fault-more (NoCat x) es root m n l h = absurd h
fault-more (Unbound x) es root m n l h = absurd h
fault-more (WrongSort x) es root m n l h = absurd h
fault-more (NotMonotone x) es root m n l h = absurd h
fault-more (CallsTooLarge x) es root m n l h = absurd h
fault-more FlagWithoutName es root m n l h = absurd h

-- a path goes on to a file that its last one includes
pub path-on : (es : List Entry) (root : Word) (path : List Word) (is : List Clause) (x : Word) → (h : IsHere es root path is) → Contains is (include x) → IsPath es root (x ∷ h.last ∷ h.before)
path-on es root path is x h c = (
  record { file = h.file; is = h.there; includes = subst (λ (us : List Clause). Contains us (include x)) (sym h.items_are) c },
  subst (IsPath es root) h.path_is h.from,
)

-- an include counts for one at least
pub count-some : (es : List Entry) (depth : ℕ) (path : List Word) (x : Word) → 1 ≤ count es depth path (include x)
unfolding count
count-some es zero path x = omega arith
count-some es (suc depth) path x = omega arith

-- and for its file's items, if that is put in place
pub count-include : (es : List Entry) (depth : ℕ) (path : List Word) (x : Word) (f : File) → file_of x es ≡ Some f → is_on path x ≡ false →
    count es (suc depth) path (include x) ≡ 1 + sum_by (count es depth (x ∷ path)) f.items
unfolding count
count-include es depth path x f e o =
    ap (λ b. 1 + cond b 0 (sum_in (count es depth (x ∷ path)) (file_of x es))) o ∙ ap (λ v. 1 + sum_in (count es depth (x ∷ path)) v) e

pub counts-include : (es : List Entry) (path : List Word) (x : Word) (f : File) → length path < 16 → file_of x es ≡ Some f → is_on path x ≡ false →
    counts_for es path (include x ∷ []) ≡ 1 + counts_for es (x ∷ path) f.items
counts-include es path x f l e o =
    let d : 16 - length path ≡ suc (16 - length (x ∷ path)) = omega arith in
    let one = sum_by-cons (count es (16 - length path) path) (include x) [] in
    let c = count-include es (16 - length (x ∷ path)) path x f e o in
    omega (arith, one, ap (λ n. count es n path (include x)) d, c)

pub cycle-here : (es : List Entry) (root : Word) (path : List Word) (is : List Clause) (x : Word) → IsHere es root path is → Contains is (include x) → is_on path x ≡ true → IsAstray (IncludeCycle x) es root
cycle-here es root path is x h c e =
    (h.last ∷ h.before, path-on es root path is x h c, subst (λ p. Contains p x) h.path_is (Contains-from_any (λ y z. (bytes_eq-Decides y z).0) x path e))

pub deep-here : (es : List Entry) (root : Word) (path : List Word) (is : List Clause) (x : Word) → IsHere es root path is → Contains is (include x) → 16 ≤ length path → IsSome (file_of x es) →
    (n : ℕ) → IsWalkFault ModelTooLarge es root n
deep-here es root path is x h c l s n =
    let long : 16 < length (x ∷ h.last ∷ h.before) = omega (arith, ap length h.path_is) in
    inl (x, h.last ∷ h.before, path-on es root path is x h c, long, s)

pub here-inside : (es : List Entry) (root : Word) (path : List Word) (is : List Clause) (x : Word) (f : File) → IsHere es root path is → Contains is (include x) → file_of x es ≡ Some f → length path < 16 →
    IsHere es root (x ∷ path) f.items
here-inside es root path is x f h c e l = record {
  last = x;
  before = path;
  path_is = refl;
  from = subst (λ p. IsPath es root (x ∷ p)) (sym h.path_is) (path-on es root path is x h c);
  file = f;
  there = e;
  items_are = refl;
  short = omega arith;
}

pub count-own : (es : List Entry) (depth : ℕ) (path : List Word) (i : Clause) → IsOwn i → count es depth path i ≡ 1
unfolding count
count-own es zero path i o = refl
count-own es (suc depth) path (bind bs) o = refl
count-own es (suc depth) path (bind_recursively bs) o = refl
count-own es (suc depth) path (check flag negated kind a x) o = refl
count-own es (suc depth) path (include x) o = absurd o
count-own es (suc depth) path (show ss) o = refl
count-own es (suc depth) path (unshow xs) o = refl

pub counts-own : (es : List Entry) (path : List Word) (i : Clause) → IsOwn i → counts_for es path (i ∷ []) ≡ 1
counts-own es path i o = let one = sum_by-cons (count es (16 - length path) path) i [] in omega (arith, one, count-own es (16 - length path) path i o)

pub counts-some : (es : List Entry) (path : List Word) (x : Word) → 1 ≤ counts_for es path (include x ∷ [])
counts-some es path x = let one = sum_by-cons (count es (16 - length path) path) (include x) [] in omega (arith, one, count-some es (16 - length path) path x)

-- an item that is no include is placed: it is counted and added
pub place_own : (es : List Entry) (path : List Word) (i : Clause) (old mid new : Draft) → IsOwn i →
    mid.count ≡ old.count + 1 → mid.items ≡ old.items → mid.files ≡ old.files →
    map clause_of new.items.items ≡ map clause_of mid.items.items ++ i ∷ [] → new.files ≡ mid.files → new.count ≡ mid.count → Places es path (i ∷ []) old new
place_own es path i old mid new o c a f b g d = record {
  added = i ∷ [];
  read = [];
  walks = walk_own o walk_end;
  grows = record {
    items = b ∙ ap (λ (v : Vec Item Global). map clause_of v.items ++ i ∷ []) a;
    files = ap (λ (v : Vec FileVersion Global). v.items) (g ∙ f);
    counts = omega (arith, c, d, counts-own es path i o);
  };
}

-- an include is placed: it is counted, its file is noted, and the file's items are placed
pub place_include : (es : List Entry) (path : List Word) (x : Word) (f : File) (old mid noted new : Draft) →
    file_of x es ≡ Some f → is_on path x ≡ false → length path < 16 →
    mid.count ≡ old.count + 1 → mid.items ≡ old.items → mid.files ≡ old.files →
    Grows es mid noted [] (x ∷ []) 0 → Places es (x ∷ path) f.items noted new → Places es path (include x ∷ []) old new
place_include es path x f old mid noted new e o l c a g n p = record {
  added = p.added ++ [];
  read = x ∷ (p.read ++ []);
  walks = walk_into e o l p.walks walk_end;
  grows = record {
    items = p.grows.items ∙ (ap (λ us. us ++ p.added) (n.items ∙ (append-nil (map clause_of mid.items.items) ∙ ap (λ (v : Vec Item Global). map clause_of v.items) a))
        ∙ ap (λ us. map clause_of old.items.items ++ us) (sym (append-nil p.added)));
    files = p.grows.files ∙ (ap (λ fs. note_all es fs p.read) (n.files ∙ ap (λ (v : Vec FileVersion Global). note es v.items x) g)
        ∙ ap (λ xs. note_all es (note es old.files.items x) xs) (sym (append-nil p.read)));
    counts = omega (arith, p.grows.counts, n.counts, c, counts-include es path x f l e o);
  };
}

-- the faults of an include's items are those of the include
pub fault_include : (e : ModelFault) (es : List Entry) (root : Word) (path : List Word) (x : Word) (f : File) (old mid noted : Draft) →
    file_of x es ≡ Some f → is_on path x ≡ false → length path < 16 → mid.count ≡ old.count + 1 → Grows es mid noted [] (x ∷ []) 0 →
    IsWalkFault e es root (noted.count + counts_for es (x ∷ path) f.items) → IsWalkFault e es root (old.count + counts_for es path (include x ∷ []))
fault_include e es root path x f old mid noted is o l c n h =
    fault-more e es root (noted.count + counts_for es (x ∷ path) f.items) (old.count + counts_for es path (include x ∷ [])) (omega (arith, n.counts, c, counts-include es path x f l is o)) h

-- the 4,097th item
pub fault_full : (es : List Entry) (root : Word) (path : List Word) (i : Clause) (n : ℕ) → n ≡ 4096 → 1 ≤ counts_for es path (i ∷ []) → IsWalkFault ModelTooLarge es root (n + counts_for es path (i ∷ []))
fault_full es root path i n e l = let more : 4096 < n + counts_for es path (i ∷ []) = omega arith in inr more

-- the fault at an item is one of the items
pub fault_item : (e : ModelFault) (es : List Entry) (root : Word) (path : List Word) (is : List Clause) (k : ℕ) (i : Clause) (old mid : Draft) →
    k < length is → i ≡ get_or is k i → Places es path (take k is) old mid →
    IsWalkFault e es root (mid.count + counts_for es path (i ∷ [])) → IsWalkFault e es root (old.count + counts_for es path is)
fault_item e es root path is k i old mid l at p h =
    let whole = ap (counts_for es path) (take-append-drop (k + 1) is) in
    let parts = counts-append es path (take (k + 1) is) (drop (k + 1) is) in
    let front = ap (counts_for es path) (take_more is k i l ∙ ap (λ j. take k is ++ j ∷ []) (sym at)) in
    let both = counts-append es path (take k is) (i ∷ []) in
    let placed = p.grows.counts in
    fault-more e es root (mid.count + counts_for es path (i ∷ [])) (old.count + counts_for es path is) (omega (arith, whole, parts, front, both, placed)) h

-- one more item is placed
pub places_more : (es : List Entry) (path : List Word) (is : List Clause) (k : ℕ) (i : Clause) (old mid new : Draft) →
    k < length is → i ≡ get_or is k i → Places es path (take k is) old mid → Places es path (i ∷ []) mid new → Places es path (take (k + 1) is) old new
places_more es path is k i old mid new l at p q =
    subst (λ js. Places es path js old new) (sym (take_more is k i l ∙ ap (λ j. take k is ++ j ∷ []) (sym at))) (places-append es path (take k is) (i ∷ []) old mid new p q)

-- the same at a call, whose path is a list of references

pub here_call : (es : List Entry) (root : Word) (x : Word) (path : List Word) (longer given : List (Bor Word)) (f : File) (items : List Item) →
    given ≡ longer → told longer ≡ x ∷ path → map clause_of items ≡ f.items → IsHere es root (x ∷ path) f.items → IsHere es root (told given) (map clause_of items)
here_call es root x path longer given f items g t i h =
    subst (λ p. IsHere es root p (map clause_of items)) (sym (ap told g ∙ t)) (subst (IsHere es root (x ∷ path)) (sym i) h)

pub length_call : (x : Word) (path longer given : List (Bor Word)) → given ≡ longer → told longer ≡ x ∷ told path → length given ≡ length path + 1
length_call x path longer given g t =
    omega (arith, ap length g, length-map longer (λ y. y.now), length-map path (λ y. y.now), ap length t)

pub places_call : (es : List Entry) (x : Word) (path : List Word) (longer given : List (Bor Word)) (f : File) (items : List Item) (old new : Draft) →
    given ≡ longer → told longer ≡ x ∷ path → map clause_of items ≡ f.items → Places es (told given) (map clause_of items) old new → Places es (x ∷ path) f.items old new
places_call es x path longer given f items old new g t i p =
    subst (λ q. Places es q f.items old new) (ap told g ∙ t) (subst (λ us. Places es (told given) us old new) i p)

pub fault_call : (e : ModelFault) (es : List Entry) (root : Word) (x : Word) (path : List Word) (longer given : List (Bor Word)) (f : File) (items : List Item) (n : ℕ) →
    given ≡ longer → told longer ≡ x ∷ path → map clause_of items ≡ f.items → IsWalkFault e es root (n + counts_for es (told given) (map clause_of items)) → IsWalkFault e es root (n + counts_for es (x ∷ path) f.items)
fault_call e es root x path longer given f items n g t i h =
    subst (λ q. IsWalkFault e es root (n + counts_for es q f.items)) (ap told g ∙ t) (subst (λ us. IsWalkFault e es root (n + counts_for es (told given) us)) i h)

pub short : (path : List (Bor Word)) → length (told path) ≤ 16 → (length path ≡ 16 → ⊥) → length (told path) < 16
short path l n = let m = length-map path (λ y. y.now) in let k : length path ≢ 16 = n in omega arith
