-- Items of a model have no fault, and a root gives one list of items.
use Rattle.std.proofs.Common.{◌≡◌, ◌≤◌, List, [], ◌∷◌, ◌++◌, Some, None, true, false, map, Bool, Option, refl, sym, ◌∙◌, inl, inr, subst, ap, IsSome, append_assoc, append-nil, arith}
use Rattle.std.specs.List.{Contains, All}
use Rattle.std.proofs.lemmas.List.Elements.{All-contains, Contains-append_left}
use Rattle.cat_tree.specs.Tree.{Word, values_in, Clause, bind, bind_recursively, check, include, show, unshow, File}
use Rattle.cat_model.proofs.Contained.{contains_nothing, all_from}
use Rattle.cat_model.proofs.Charged.{total_append}
use Rattle.cat_model.specs.Closure.{IsOwn, Expands, done, own, included, IsClosure, once, versioned}
use Rattle.cat_model.specs.Denials.{Marking, marks, marks_past, first_marks, grouped, denied_in}
use Rattle.cat_model.specs.Depths.{Depths, depths_past, first_depths}
use Rattle.cat_model.specs.Faults.{IsCause, IsAstray, IsItemFault, IsFaulty, IsMissorted, marks_behind, IsDenied, IsNameless}
use Rattle.cat_model.specs.Files.{file_of}
use Rattle.cat_model.specs.Names.{IsBound, AreBound, is_bound_behind}
use Rattle.cat_model.specs.Scopes.{IsOrdered, AreOrdered, Charge, charges_of, all_charges, charges, AreFew, IsModel}
use Rattle.cat_model.specs.Sizes.{Sizes, sizes_past, first_sizes}
use Rattle.cat_model.specs.Sorts.{Sorting, sort, recursive, sorts_past, sorts_behind, first_sorts}
use Rattle.cat_model.specs.declared.fault.ModelFault.{ModelFault}
use Rattle.cat_model.specs.declared.fault.ModelFault.TheVariants.{NoCat, NoInclude, IncludeCycle, Unbound, WrongSort, NotMonotone, FlagWithoutName, ModelTooLarge, CallsTooLarge, NoMemory}
use Rattle.cat_model.specs.declared.files.Entry.{Entry}
use Rattle.cat_model.specs.declared.model.FileVersion.{FileVersion}
use Rattle.cat_model.specs.declared.sort.Sort.{Sort}
use Rattle.cat_model.specs.declared.sort.Sort.TheVariants.{Relation}

-- an item among those of a model

pub ordered_at : (S : Sorting) (M : Marking) (front : List Clause) (i : Clause) (rest : List Clause) → AreOrdered S M (front ++ i ∷ rest) → IsOrdered (sorts_behind S front) (marks_behind M front) i
ordered_at S M [] i rest h = h.0
ordered_at S M (j ∷ front) i rest h = ordered_at (sorts_past S j) (marks_past M j) front i rest h.1

pub bound_at : (before front : List Clause) (i : Clause) (rest : List Clause) → AreBound before (front ++ i ∷ rest) → IsBound (before ++ front) i
bound_at before [] i rest h = subst (λ is. IsBound is i) (sym (append-nil before)) h.0
bound_at before (j ∷ front) i rest h = subst (λ is. IsBound is i) (append_assoc before (j ∷ []) front) (bound_at (before ++ j ∷ []) front i rest h.1)

-- charges of the first items are the first charges
pub charges_before : (Z : Sizes) (D : Depths) (is js : List Clause) → (more : List Charge) × (all_charges Z D (is ++ js) ≡ all_charges Z D is ++ more)
charges_before Z D [] js = (all_charges Z D js, refl)
charges_before Z D (i ∷ is) js =
    let h = charges_before (sizes_past Z i) (depths_past D i) is js in
    (h.0, ap (λ cs. charges_of Z D i ++ cs) h.1 ∙ sym (append_assoc (charges_of Z D i) (all_charges (sizes_past Z i) (depths_past D i) is) h.0))

all_before : (P : Charge → Type 0) (cs ds : List Charge) → All P (cs ++ ds) → All P cs
all_before P cs ds h = all_from P cs (λ c k. All-contains P (cs ++ ds) c h (Contains-append_left cs ds c k))

few_before : (cs ds : List Charge) → AreFew (cs ++ ds) → AreFew cs
few_before cs ds h = record {
  nodes = (let e = total_append cs ds in let f = h.nodes in omega (arith, e, f));
  depth = (let P : Charge → Type 0 = λ c. c.depth ≤ 64 in all_before P cs ds h.depth);
}

large_none : (items front : List Clause) (i : Clause) (rest : List Clause) (w : Word) → items ≡ front ++ i ∷ rest → AreFew (charges items) → IsItemFault (CallsTooLarge w) front i → ⊥
large_none items front i rest w e f h =
    let t = h.1 in
    let m = charges_before first_sizes first_depths (front ++ i ∷ []) rest in
    let whole : charges items ≡ (t.before ++ t.at ∷ []) ++ (t.behind ++ m.0) =
    ap charges (e ∙ sym (append_assoc front (i ∷ []) rest)) ∙ m.1 ∙ ap (λ cs. cs ++ m.0) t.split ∙ ap (λ cs. cs ++ m.0) (sym (append_assoc t.before (t.at ∷ []) t.behind)) ∙ append_assoc (t.before ++ t.at ∷ []) t.behind m.0 in
    t.large (few_before (t.before ++ t.at ∷ []) (t.behind ++ m.0) (subst AreFew whole f))

none_some : (o : Option Sort) → o ≡ None → IsSome o → ⊥
none_some o e h = let g : false ≡ true = subst IsSome e h in cc

missorted_none : (S : Sorting) (M : Marking) (i : Clause) (w : Word) → IsOrdered S M i → IsMissorted S i w → ⊥
missorted_none S M (bind ds) w f h = none_some (sort S h.0.value) h.3 (All-contains (λ b. IsSome (sort S b.value)) (values_in ds) h.0 f h.1)
missorted_none S M (bind_recursively bs) w f h = h.3 (All-contains (λ b. sort (recursive bs S) b.value ≡ Some Relation) bs h.0 f.0 h.1)
missorted_none S M (check flag negated kind a y) w f h = h.1 f.1
missorted_none S M (include y) w f h = h
missorted_none S M (show ss) w f h = h
missorted_none S M (unshow ys) w f h = h

denied_none : (S : Sorting) (M : Marking) (i : Clause) (x : Word) → IsOrdered S M i → IsDenied M i x → ⊥
denied_none S M (bind_recursively bs) x f h =
    let none = All-contains (λ b. denied_in (marks (grouped bs M) b.value) ≡ []) bs h.0 f.1 h.1 in
    contains_nothing x (subst (λ xs. Contains xs x) none h.2)
denied_none S M (bind ds) x f h = h
denied_none S M (check flag negated kind a y) x f h = h
denied_none S M (include y) x f h = h
denied_none S M (show ss) x f h = h
denied_none S M (unshow ys) x f h = h

nameless_none : (S : Sorting) (M : Marking) (i : Clause) → IsOrdered S M i → IsNameless i → ⊥
nameless_none S M (check flag negated kind a x) f h = let g : false ≡ true = subst IsSome h.1 (f.0 h.0) in cc
nameless_none S M (bind ds) f h = h
nameless_none S M (bind_recursively bs) f h = h
nameless_none S M (include y) f h = h
nameless_none S M (show ss) f h = h
nameless_none S M (unshow ys) f h = h

unbound_none : (b : Bool) → b ≡ true → b ≡ false → ⊥
unbound_none b t f = let g : false ≡ true = sym f ∙ t in cc

item_faultless : (e : ModelFault) (items front : List Clause) (i : Clause) (rest : List Clause) → items ≡ front ++ i ∷ rest → IsModel items → IsItemFault e front i → ⊥
item_faultless (Unbound x) items front i rest s m h = unbound_none (is_bound_behind front x) (bound_at [] front i rest (subst (AreBound []) s m.bound) x h.0) h.1
item_faultless (CallsTooLarge w) items front i rest s m h = large_none items front i rest w s m.few h
item_faultless (WrongSort w) items front i rest s m h =
    missorted_none (sorts_behind first_sorts front) (marks_behind first_marks front) i w (ordered_at first_sorts first_marks front i rest (subst (AreOrdered first_sorts first_marks) s m.ordered)) h.2
item_faultless (NotMonotone x) items front i rest s m h =
    denied_none (sorts_behind first_sorts front) (marks_behind first_marks front) i x (ordered_at first_sorts first_marks front i rest (subst (AreOrdered first_sorts first_marks) s m.ordered)) h
item_faultless FlagWithoutName items front i rest s m h =
    nameless_none (sorts_behind first_sorts front) (marks_behind first_marks front) i (ordered_at first_sorts first_marks front i rest (subst (AreOrdered first_sorts first_marks) s m.ordered)) h
item_faultless (NoCat x) items front i rest s m h = h
item_faultless (NoInclude x) items front i rest s m h = h
item_faultless (IncludeCycle x) items front i rest s m h = h
item_faultless ModelTooLarge items front i rest s m h = h
item_faultless NoMemory items front i rest s m h = h

-- the items of a model have no fault
pub faultless : (e : ModelFault) (items : List Clause) → IsModel items → IsFaulty e items → ⊥
faultless e items m h = item_faultless e items h.front h.item h.rest h.split m h.fault

same_file : (f g : File) → Some f ≡ Some g → f ≡ g
same_file f g e = cc

-- items expand in one way
pub expands-one : {es : List Entry} {is js : List Clause} {xs : List Word} → Expands es is js xs → {ls ks : List Clause} {ys : List Word} → is ≡ ls → Expands es ls ks ys → (js ≡ ks) × (xs ≡ ys)
expands-one done e done = (refl, refl)
expands-one done e (own p w) = absurd (let z : ⊥ = cc in z)
expands-one done e (included q u w) = absurd (let z : ⊥ = cc in z)
expands-one (own o v) e done = absurd (let z : ⊥ = cc in z)
expands-one (own {i} {is} {js} o v) e (own {i = j} {is = ls} {js = ks} p w) =
    let tail = expands-one v (let t : is ≡ ls = cc in t) w in
    let head : i ≡ j = cc in
    let items : (i ∷ js) ≡ (j ∷ ks) = ap (λ k. k ∷ js) head ∙ ap (λ (us : List Clause). j ∷ us) tail.0 in
    (items, tail.1)
expands-one (own {i} o v) e (included {x} q u w) = absurd (let h : i ≡ include x = cc in subst IsOwn h o)
expands-one (included q u v) e done = absurd (let z : ⊥ = cc in z)
expands-one (included {x} q u v) e (own {i = j} p w) = absurd (let h : j ≡ include x = cc in subst IsOwn h p)
expands-one {es} (included {x} {f} {is} {js} {ks} {xs} {ys = zs} q u v) e (included {x = y} {f = g} {is = ls} {js = ms} {ks = ns} {xs = ys} {ys = ws} p a b) =
    let name : x ≡ y = cc in
    let same : f ≡ g = same_file f g (sym q ∙ (ap (λ z. file_of z es) name ∙ p)) in
    let inner = expands-one u (ap (λ (h : File). h.items) same) a in
    let outer = expands-one v (let t : is ≡ ls = cc in t) b in
    let items : ks ++ js ≡ ns ++ ms = ap (λ us. us ++ js) inner.0 ∙ ap (λ us. ns ++ us) outer.0 in
    let read : zs ++ xs ≡ ws ++ ys = ap (λ us. us ++ xs) inner.1 ∙ ap (λ us. ws ++ us) outer.1 in
    (items, ap (λ z. z ∷ (zs ++ xs)) name ∙ ap (λ (us : List Word). y ∷ us) read)

-- a root gives one list of items, and one of files
pub closure_one : (es : List Entry) (root : Word) (is js : List Clause) (fs gs : List FileVersion) → IsClosure es root is fs → IsClosure es root js gs → (is ≡ js) × (fs ≡ gs)
closure_one es root is js fs gs c d =
    let both = expands-one c.expands (ap (λ (h : File). h.items) (same_file c.file d.file (sym c.is ∙ d.is))) d.expands in
    (both.0, c.files_are ∙ (ap (λ xs. map (versioned es) (once (root ∷ xs))) both.1 ∙ sym d.files_are))

-- a root that gives a model has no cause of a refusal
pub no-cause : (es : List Entry) (root : Word) (items : List Clause) (files : List FileVersion) → IsClosure es root items files → IsModel items → ((e : ModelFault) → ¬ IsAstray e es root) →
    (e : ModelFault) → ¬ IsCause e es root
no-cause es root items files c m n e h =
    elim h [ inl a ↦ n e a | inr f ↦ faultless e items m (subst (IsFaulty e) ((closure_one es root f.0 items f.1 files f.2 c).0) f.3) ]
