-- Tests and files by their names.
use Rattle.std.proofs.Common.{◌≡◌, ◌≢◌, ℕ, suc, ◌+◌, ◌⊎◌, List, [], ◌∷◌, length, map, Bool, true, false, cond, not, nat_lt, Option, Some, None, refl, sym, ap, ◌∙◌, subst, inl, inr, arith}
use Rattle.std.proofs.Math.Dec.{leb-zero, leb-suc-suc}
use Rattle.std.specs.Prelude.{if◌then◌else◌}
use Rattle.std.specs.List.{position, position_or_len}
use Rattle.std.specs.Map.{lookup}
use Rattle.std.specs.Str.{bytes_eq}
use Rattle.std.proofs.lemmas.Slice.Eq.{bytes_eq-Decides}
use Rattle.indexmap.specs.IndexMap.{insert_entry}
use Rattle.listings.specs.Lists.{IsIn}
use Rattle.listings.proofs.Listings.{in_left, in_right, in_map, map_in}
use Rattle.cat_tree.specs.Tree.{Word, Clause}
use Rattle.cat_model.specs.Closure.{Expands, done, own, included, IsClosure, once, versioned}
use Rattle.cat_model.specs.Files.{entry_of, version_of, version_in, file_of, or_built_in, loaded_in, place_of, store, store_at}
use Rattle.cat_model.specs.declared.files.Entry.{Entry}
use Rattle.cat_model.specs.declared.model.FileVersion.{FileVersion}
use Rattle.world.proofs.ByNumber.{cond_yes, cond_no, in_filter}

pub word_tells : (a b : List ℕ) → ((bytes_eq a b ≡ true) × (a ≡ b)) ⊎ ((bytes_eq a b ≡ false) × (a ≢ b))
word_tells a b =
    let at : (r : Bool) → bytes_eq a b ≡ r → ((bytes_eq a b ≡ true) × (a ≡ b)) ⊎ ((bytes_eq a b ≡ false) × (a ≢ b)) =
    elim [ true ↦ λ e. inl (e, (bytes_eq-Decides a b).0 e) | false ↦ λ e. inr (e, λ same. (let yes = (bytes_eq-Decides a b).1 same in cc)) ] in
    at (bytes_eq a b) refl

same_word : (a b : List ℕ) → a ≡ b → bytes_eq a b ≡ true
same_word a b e = (bytes_eq-Decides a b).1 e

other_word : (a b : List ℕ) → a ≢ b → bytes_eq a b ≡ false
other_word a b d = elim (word_tells a b) [ inl p ↦ absurd (d p.1) | inr q ↦ q.0 ]

-- tests

pub lookup_same : {V : Type 0} (es : List (List ℕ × V)) (k : List ℕ) (v : V) → lookup (bytes_eq k) (insert_entry bytes_eq es k v) ≡ Some v
lookup_same {V} [] k v = cond_yes {A = Option V} (bytes_eq k k) (Some v) None (same_word k k refl)
lookup_same {V} (e ∷ es) k v = elim (word_tells k e.0) [
  | inl p ↦ (let here : insert_entry bytes_eq (e ∷ es) k v ≡ (e.0, v) ∷ es = ap (λ b. if b then (e.0, v) ∷ es else e ∷ insert_entry bytes_eq es k v) p.0 in
      ap (lookup (bytes_eq k)) here ∙ cond_yes {A = Option V} (bytes_eq k e.0) (Some v) (lookup (bytes_eq k) es) p.0)
  | inr q ↦ (let there : insert_entry bytes_eq (e ∷ es) k v ≡ e ∷ insert_entry bytes_eq es k v = ap (λ b. if b then (e.0, v) ∷ es else e ∷ insert_entry bytes_eq es k v) q.0 in
      ap (lookup (bytes_eq k)) there ∙ cond_no {A = Option V} (bytes_eq k e.0) (Some e.1) _ q.0 ∙ lookup_same es k v)
]

pub lookup_other : {V : Type 0} (es : List (List ℕ × V)) (k x : List ℕ) (v : V) → x ≢ k → lookup (bytes_eq x) (insert_entry bytes_eq es k v) ≡ lookup (bytes_eq x) es
lookup_other {V} [] k x v d = cond_no {A = Option V} (bytes_eq x k) (Some v) None (other_word x k d)
lookup_other {V} (e ∷ es) k x v d = elim (word_tells k e.0) [
  | inl p ↦ (let here : insert_entry bytes_eq (e ∷ es) k v ≡ (e.0, v) ∷ es = ap (λ b. if b then (e.0, v) ∷ es else e ∷ insert_entry bytes_eq es k v) p.0 in
      let no : bytes_eq x e.0 ≡ false = other_word x e.0 (λ s. d (s ∙ sym p.1)) in
      ap (lookup (bytes_eq x)) here ∙ cond_no {A = Option V} (bytes_eq x e.0) (Some v) (lookup (bytes_eq x) es) no ∙ sym (cond_no {A = Option V} (bytes_eq x e.0) (Some e.1) (lookup (bytes_eq x) es) no))
  | inr q ↦ (let there : insert_entry bytes_eq (e ∷ es) k v ≡ e ∷ insert_entry bytes_eq es k v = ap (λ b. if b then (e.0, v) ∷ es else e ∷ insert_entry bytes_eq es k v) q.0 in
      ap (lookup (bytes_eq x)) there ∙ ap (cond (bytes_eq x e.0) (Some e.1)) (lookup_other es k x v d))
]

-- files

past : (b : Bool) (i : ℕ) (new e : Entry) (es : List Entry) → store_at (cond b (Some (suc i)) None) new (e ∷ es) ≡ e ∷ store_at (cond b (Some i) None) new es
past true i new e es = refl
past false i new e es = refl

store_next : (p : Entry → Bool) (new e : Entry) (es : List Entry) → store_at (position p (e ∷ es)) new (e ∷ es) ≡ cond (p e) (new ∷ es) (e ∷ store_at (position p es) new es)
store_next p new e es =
    let put : Bool → ℕ → List Entry = λ b i. store_at (cond b (Some i) None) new (e ∷ es) in
    let i : ℕ = position_or_len p es in
    let next : 1 + i ≡ suc i = omega arith in
    let by : (b : Bool) → (let k : ℕ = cond (not b) (1 + i) 0 in put (nat_lt k (length (e ∷ es))) k) ≡ cond b (new ∷ es) (e ∷ store_at (position p es) new es) =
    elim [
      | true ↦ ap (λ b. put b 0) (leb-suc-suc 0 (length es) ∙ leb-zero (length es))
      | false ↦ ap (λ k. put (nat_lt k (length (e ∷ es))) k) next ∙ ap (λ b. put b (suc i)) (leb-suc-suc (suc i) (length es)) ∙ past (nat_lt i (length es)) i new e es
    ] in
    by (p e)

stored : (new d : Entry) (es : List Entry) → store new (d ∷ es) ≡ cond (bytes_eq d.name new.name) (new ∷ es) (d ∷ store new es)
unfolding place_of
stored new d es = store_next (λ e. bytes_eq e.name new.name) new d es

pub entry_same : (es : List Entry) (e : Entry) → entry_of e.name (store e es) ≡ Some e
unfolding entry_of place_of
entry_same [] e = cond_yes {A = Option Entry} (bytes_eq e.name e.name) (Some e) None (same_word e.name e.name refl)
entry_same (d ∷ es) e = elim (word_tells d.name e.name) [
  | inl p ↦ ap (entry_of e.name) (stored e d es ∙ cond_yes (bytes_eq d.name e.name) (e ∷ es) (d ∷ store e es) p.0) ∙ cond_yes {A = Option Entry} (bytes_eq e.name e.name) (Some e) (entry_of e.name es) (same_word e.name e.name refl)
  | inr q ↦ ap (entry_of e.name) (stored e d es ∙ cond_no (bytes_eq d.name e.name) (e ∷ es) (d ∷ store e es) q.0) ∙ cond_no {A = Option Entry} (bytes_eq d.name e.name) (Some d) _ q.0 ∙ entry_same es e
]

pub entry_other : (es : List Entry) (e : Entry) (x : Word) → x ≢ e.name → entry_of x (store e es) ≡ entry_of x es
unfolding entry_of place_of
entry_other [] e x d = cond_no {A = Option Entry} (bytes_eq e.name x) (Some e) None (other_word e.name x (λ s. d (sym s)))
entry_other (c ∷ es) e x d = elim (word_tells c.name e.name) [
  | inl p ↦ (let no : bytes_eq e.name x ≡ false = other_word e.name x (λ s. d (sym s)) in
      let no' : bytes_eq c.name x ≡ false = other_word c.name x (λ s. d (sym s ∙ p.1)) in
      ap (entry_of x) (stored e c es ∙ cond_yes (bytes_eq c.name e.name) (e ∷ es) (c ∷ store e es) p.0) ∙ cond_no {A = Option Entry} (bytes_eq e.name x) (Some e) (entry_of x es) no ∙ sym (cond_no {A = Option Entry} (bytes_eq c.name x) (Some c) (entry_of x es) no'))
  | inr q ↦ ap (entry_of x) (stored e c es ∙ cond_no (bytes_eq c.name e.name) (e ∷ es) (c ∷ store e es) q.0) ∙ ap (cond (bytes_eq c.name x) (Some c)) (entry_other es e x d)
]

pub version_same : (es : List Entry) (e : Entry) → version_of e.name (store e es) ≡ e.version
version_same es e = ap version_in (entry_same es e)

pub version_other : (es : List Entry) (e : Entry) (x : Word) → x ≢ e.name → version_of x (store e es) ≡ version_of x es
version_other es e x d = ap version_in (entry_other es e x d)

file_other : (es : List Entry) (e : Entry) (x : Word) → x ≢ e.name → file_of x (store e es) ≡ file_of x es
file_other es e x d = ap (λ o. or_built_in x (loaded_in o)) (entry_other es e x d)

-- what a closure reads is all that it depends on

expands_moved : {es fs : List Entry} {is js : List Clause} {xs : List Word} → Expands es is js xs → ((x : Word) → IsIn x xs → file_of x fs ≡ file_of x es) → Expands fs is js xs
expands_moved done h = done
expands_moved (own o v) h = own o (expands_moved v h)
expands_moved (included {x} {f} {is} {js} {ks} {xs} {ys = zs} q u v) h = included (h x (inl refl) ∙ q) (expands_moved u (λ y p. h y (inr (in_left zs xs y p)))) (expands_moved v (λ y p. h y (inr (in_right zs xs y p))))

in_once : (xs : List Word) (x : Word) → IsIn x xs → IsIn x (once xs)
in_once [] x p = absurd p
in_once (y ∷ ys) x p = elim (word_tells y x) [
  | inl e ↦ inl (sym e.1)
  | inr d ↦ elim p [ inl e ↦ absurd (d.1 (sym e)) | inr q ↦ inr (in_filter (λ z. not (bytes_eq y z)) (once ys) x (in_once ys x q) (ap not d.0)) ]
]

map_same : {A B : Type 0} (f g : A → B) (xs : List A) → ((x : A) → IsIn x xs → f x ≡ g x) → map f xs ≡ map g xs
map_same f g [] h = refl
map_same f g (x ∷ xs) h = ap (λ y. y ∷ map f xs) (h x (inl refl)) ∙ ap (λ l. g x ∷ l) (map_same f g xs (λ y p. h y (inr p)))

pub closure_moved : (es : List Entry) (e : Entry) (root : Word) (items : List Clause) (files : List FileVersion) → IsClosure es root items files → ((f : FileVersion) → IsIn f files → f.name ≢ e.name) → IsClosure (store e es) root items files
closure_moved es e root items files c apart =
    let differs : (x : Word) → IsIn x (once (root ∷ c.read)) → x ≢ e.name = λ x p. (let P : List FileVersion → Type 0 = λ l. IsIn (versioned es x) l in
    apart (versioned es x) (subst P (sym c.files_are) (map_in (versioned es) (once (root ∷ c.read)) x p))) in
    let reads : (x : Word) → IsIn x (root ∷ c.read) → file_of x (store e es) ≡ file_of x es = λ x p. file_other es e x (differs x (in_once (root ∷ c.read) x p)) in
    record {
      file = c.file;
      is = reads root (inl refl) ∙ c.is;
      read = c.read;
      expands = expands_moved c.expands (λ x p. reads x (inr p));
      files_are = c.files_are ∙ map_same (versioned es) (versioned (store e es)) (once (root ∷ c.read)) (λ x p. ap (λ n. record { name = x; version = n }) (sym (version_other es e x (differs x p))));
    }

-- the root comes first
abbrev pub root_of : List FileVersion → Word
root_of [] = []
root_of (f ∷ fs) = f.name

pub root_is : (es : List Entry) (root : Word) (items : List Clause) (files : List FileVersion) → IsClosure es root items files → root_of files ≡ root
root_is es root items files c = ap root_of c.files_are

pub current : (es : List Entry) (root : Word) (items : List Clause) (files : List FileVersion) → IsClosure es root items files → (f : FileVersion) → IsIn f files → f.version ≡ version_of f.name es
current es root items files c f p =
    let P : List FileVersion → Type 0 = λ l. IsIn f l in
    let r = in_map (versioned es) (once (root ∷ c.read)) f (subst P c.files_are p) in
    sym (ap (λ (g : FileVersion). g.version) r.2) ∙ ap (λ (g : FileVersion). version_of g.name es) r.2
