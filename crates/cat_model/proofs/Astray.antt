-- A walk that comes to its end shows that no path leads astray.
use Rattle.std.proofs.Common.{◌≡◌, ◌≤◌, List, [], ◌∷◌, Some, false, length, refl, sym, ◌∙◌, inl, inr, ◌⊎◌, subst, arith}
use Rattle.std.specs.List.{Contains, All}
use Rattle.std.specs.Str.{bytes_eq}
use Rattle.std.proofs.lemmas.List.Elements.{Contains-append_cases, All-nil, All-cons, All-append}
use Rattle.std.proofs.lemmas.Map.Views.{list_any-from_Contains}
use Rattle.std.proofs.Common.{rules}
use Rattle.std.specs.Cmp.{IsEquivalence}
use Rattle.std.specs.Cmp.Rules.{comparing}
use Rattle.cat_tree.specs.Tree.{Word, Clause, include, File}
use Rattle.cat_model.proofs.Contained.{contains_nothing, contains_one}
use Rattle.cat_model.specs.Closure.{IsPath, IsOwn, is_on, root_count, Expands, done, own, included}
use Rattle.cat_model.specs.Faults.{IsAstray}
use Rattle.cat_model.specs.Files.{file_of}
use Rattle.cat_model.specs.Walks.{Walks, walk_end, walk_own, walk_into}
use Rattle.cat_model.specs.declared.fault.ModelFault.{ModelFault}
use Rattle.cat_model.specs.declared.fault.ModelFault.TheVariants.{NoCat, NoInclude, IncludeCycle, Unbound, WrongSort, NotMonotone, FlagWithoutName, ModelTooLarge, CallsTooLarge, NoMemory}
use Rattle.cat_model.specs.declared.files.Entry.{Entry}

pub expands-walked : {es : List Entry} {path : List Word} {is js : List Clause} {xs : List Word} → Walks es path is js xs → Expands es is js xs
expands-walked walk_end = done
expands-walked (walk_own o w) = own o (expands-walked w)
expands-walked (walk_into e o l v w) = included e (expands-walked v) (expands-walked w)

pub own-walked : {es : List Entry} {path : List Word} {is js : List Clause} {xs : List Word} → Walks es path is js xs → All IsOwn js
own-walked walk_end = All-nil IsOwn
own-walked (walk_own o w) = All-cons IsOwn _ _ o (own-walked w)
own-walked (walk_into e o l v w) = All-append IsOwn _ _ (own-walked v) (own-walked w)

-- file x is there, not on the path q before it and not too deep, and the walk went through it
pub record Fine (es : List Entry) (x : Word) (q : List Word) : Type 0 where
  pub file : File
  pub there : file_of x es ≡ Some file
  pub fresh : is_on q x ≡ false
  pub short : length (x ∷ q) ≤ 16
  pub out : List Clause
  pub read : List Word
  pub walks : Walks es (x ∷ q) file.items out read

contains_cons : (y : Clause) (ys : List Clause) (x : Clause) → Contains (y ∷ ys) x → (y ≡ x) ⊎ Contains ys x
contains_cons y ys x h = elim (Contains-append_cases (y ∷ []) ys x h) [ inl l ↦ inl (contains_one y x l) | inr r ↦ inr r ]

no_own : (i : Clause) (x : Word) → i ≡ include x → IsOwn i → ⊥
no_own i x e o = subst IsOwn e o

same_name : (x y : Word) → include x ≡ include y → x ≡ y
same_name x y e = cc

pub fine-included : {es : List Entry} {path : List Word} {is js : List Clause} {xs : List Word} → Walks es path is js xs → (x : Word) → Contains is (include x) → Fine es x path
fine-included walk_end x c = absurd (contains_nothing (include x) c)
fine-included (walk_own {path} {i} {is} o w) x c = elim (contains_cons i is (include x) c) [ inl e ↦ absurd (no_own i x e o) | inr d ↦ fine-included w x d ]
fine-included {es} (walk_into {path} {x = y} {f} {is} {js} {ks} {xs} {ys} e o l v w) x c =
    elim (contains_cons (include y) is (include x) c) [
      | inl p ↦ subst (λ z. Fine es z path) (same_name y x p) (record { file = f; there = e; fresh = o; short = omega arith; out = ks; read = ys; walks = v })
      | inr d ↦ fine-included w x d
    ]

equivalence : IsEquivalence bytes_eq
equivalence = search (comparing, rules)

same_file : (f g : File) → Some f ≡ Some g → f ≡ g
same_file f g e = cc

-- every file on a path is fine
pub fine-paths : (es : List Entry) (root : Word) (f : File) (js : List Clause) (xs : List Word) → file_of root es ≡ Some f → Walks es (root ∷ []) f.items js xs →
    (x : Word) (q : List Word) → IsPath es root (x ∷ q) → Fine es x q
fine-paths es root f js xs e w x [] p = subst (λ z. Fine es z []) (sym p) (record { file = f; there = e; fresh = refl; short = omega arith; out = js; read = xs; walks = w })
fine-paths es root f js xs e w y (x ∷ q) p =
    let before = fine-paths es root f js xs e w x q p.1 in
    let same : p.0.file ≡ before.file = same_file p.0.file before.file (sym p.0.is ∙ before.there) in
    fine-included before.walks y (subst (λ (g : File). Contains g.items (include y)) same p.0.includes)

-- with at most 4,096 items nothing leads astray
pub none-astray : (es : List Entry) (root : Word) (f : File) (js : List Clause) (xs : List Word) → file_of root es ≡ Some f → Walks es (root ∷ []) f.items js xs →
    root_count es root ≤ 4096 → (e : ModelFault) → ¬ IsAstray e es root
none-astray es root f js xs e w n (NoCat x) h = let g = sym e ∙ h.1 in cc
none-astray es root f js xs e w n (NoInclude x) h =
    let fine = fine-paths es root f js xs e w x (h.0 ∷ h.1) h.2 in
    let g = sym fine.there ∙ h.3 in cc
none-astray es root f js xs e w n (IncludeCycle x) h =
    let fine = fine-paths es root f js xs e w x h.0 h.1 in
    let g = sym fine.fresh ∙ list_any-from_Contains equivalence x h.0 h.2 in cc
none-astray es root f js xs e w n ModelTooLarge h =
    elim h [ inl d ↦ absurd (let fine = fine-paths es root f js xs e w d.0 d.1 d.2 in let short = fine.short in let deep = d.3 in omega arith) | inr m ↦ absurd (omega arith) ]
none-astray es root f js xs e w n (Unbound x) h = h
none-astray es root f js xs e w n (WrongSort x) h = h
none-astray es root f js xs e w n (NotMonotone x) h = h
none-astray es root f js xs e w n (CallsTooLarge x) h = h
none-astray es root f js xs e w n FlagWithoutName h = h
none-astray es root f js xs e w n NoMemory h = h
