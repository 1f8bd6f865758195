-- Classes that are joined, and the sorts that agree with them.
use Rattle.std.proofs.Common.{◌≡◌, ◌<◌, ◌≤◌, ◌⊎◌, ◌↔◌, ◌∙◌, arith, ℕ, zero, suc, length, get_or, List, [], ◌∷◌, ◌++◌, map, Bool, true, false, cond, nat_eq, inl, inr, ap, sym, subst, refl}
use Rattle.std.proofs.lemmas.Bool.{cases_lt, eqb-true, eq-eqb}
use Rattle.std.proofs.lemmas.List.{length_push}
use Rattle.cat_model.specs.Classing.{class_of, swapped, own_classes, AreFlat, Agree}
use Rattle.cat_model.specs.Schemes.{sort_of_class, same_sort}
use Rattle.cat_model.specs.declared.schemes.Class.{Class}
use Rattle.cat_model.specs.declared.schemes.Class.TheVariants.{Known, Same}
use Rattle.cat_model.specs.declared.schemes.Classes.{Classes}
use Rattle.cat_model.specs.declared.sort.Sort.{Sort}
use Rattle.cat_model.specs.declared.sort.Sort.TheVariants.{Set, Relation}

-- the class at a place after a swap
pub at_swapped : (a : ℕ) (b : Class) (cs : List Class) (i : ℕ) → get_or (map (swapped a b) cs) i (Known Set) ≡ swapped a b (get_or cs i (Known Set))
at_swapped a b [] i = refl
at_swapped a b (c ∷ cs) zero = refl
at_swapped a b (c ∷ cs) (suc i) = at_swapped a b cs i

-- what each parameter's class says
abbrev Say : List Class → List Sort → Type 0
Say cs js = (i : ℕ) → get_or js i Set ≡ sort_of_class js (get_or cs i (Known Set))

-- a class has the sort of its class
class_sort : (cs : List Class) (js : List Sort) (c : Class) → Say cs js → sort_of_class js (class_of cs c) ≡ sort_of_class js c
class_sort cs js (Known k) h = refl
class_sort cs js (Same i) h = sym (h i)

swapped_self : (a : ℕ) (b : Class) → swapped a b (Same a) ≡ b
swapped_self a b = ap (λ t. cond t b (Same a)) (eq-eqb a a refl)

-- where the two have one sort, a swap changes no sort
swapped_sort : (js : List Sort) (a : ℕ) (b c : Class) → get_or js a Set ≡ sort_of_class js b → sort_of_class js (swapped a b c) ≡ sort_of_class js c
swapped_sort js a b (Known k) h = refl
swapped_sort js a b (Same i) h = by (nat_eq i a) refl
  where
    by : (t : Bool) → nat_eq i a ≡ t → sort_of_class js (cond (nat_eq i a) b (Same i)) ≡ get_or js i Set
    by true e = ap (λ t. sort_of_class js (cond t b (Same i))) e ∙ sym h ∙ ap (λ j. get_or js j Set) (sym (eqb-true i a e))
    by false e = ap (λ t. sort_of_class js (cond t b (Same i))) e

-- what the swapped classes say: what the others did, and that the two have one sort
say_more : (cs : List Class) (a : ℕ) (b : Class) (js : List Sort) → class_of cs (Same a) ≡ Same a → Say (map (swapped a b) cs) js → Say cs js × (get_or js a Set ≡ sort_of_class js b)
say_more cs a b js own h =
    let same : get_or js a Set ≡ sort_of_class js b = h a ∙ ap (sort_of_class js) (at_swapped a b cs a ∙ ap (swapped a b) own ∙ swapped_self a b) in
    (λ i. h i ∙ ap (sort_of_class js) (at_swapped a b cs i) ∙ swapped_sort js a b (get_or cs i (Known Set)) same, same)

say_less : (cs : List Class) (a : ℕ) (b : Class) (js : List Sort) → Say cs js → get_or js a Set ≡ sort_of_class js b → Say (map (swapped a b) cs) js
say_less cs a b js h same i = h i ∙ sym (ap (sort_of_class js) (at_swapped a b cs i) ∙ swapped_sort js a b (get_or cs i (Known Set)) same)

-- swapped classes are flat

own_swapped : (cs : List Class) (a : ℕ) (b c : Class) → class_of cs b ≡ b → class_of cs c ≡ c → class_of (map (swapped a b) cs) (swapped a b c) ≡ swapped a b c
own_swapped cs a b (Known k) e f = refl
own_swapped cs a b (Same i) e f = by (nat_eq i a) refl
  where
    last : (d : Class) → class_of cs d ≡ d → swapped a b d ≡ d → class_of (map (swapped a b) cs) d ≡ d
    last (Known k) g h = refl
    last (Same j) g h = at_swapped a b cs j ∙ ap (swapped a b) g ∙ h

    stays : (d : Class) → d ≡ b → swapped a b d ≡ d
    stays (Known k) h = refl
    stays (Same j) h = (let P : Bool → Type 0 = λ t. cond t b (Same j) ≡ Same j in either (nat_eq j a) P (sym h) refl)
      where
        either : (t : Bool) (P : Bool → Type 0) → P true → P false → P t
        either true P x y = x
        either false P x y = y

    by : (t : Bool) → nat_eq i a ≡ t → class_of (map (swapped a b) cs) (cond (nat_eq i a) b (Same i)) ≡ cond (nat_eq i a) b (Same i)
    by true g = (let P : Class → Type 0 = λ d. class_of (map (swapped a b) cs) d ≡ d in subst P (sym (ap (λ t. cond t b (Same i)) g)) (last b e (stays b refl)))
    by false g = (let P : Class → Type 0 = λ d. class_of (map (swapped a b) cs) d ≡ d in subst P (sym (ap (λ t. cond t b (Same i)) g)) (last (Same i) f (ap (λ t. cond t b (Same i)) g)))

pub flat_swapped : (cs ds : List Class) (a : ℕ) (b : Class) → AreFlat cs → class_of cs b ≡ b → ds ≡ map (swapped a b) cs → AreFlat ds
flat_swapped cs ds a b h e d =
    let P : List Class → Type 0 = λ l. AreFlat l in
    subst P (sym d) (λ i. ap (class_of (map (swapped a b) cs)) (at_swapped a b cs i) ∙ own_swapped cs a b (get_or cs i (Known Set)) e (h i) ∙ sym (at_swapped a b cs i))

-- two classes of their own, where the first is a parameter's
joined_first : (old new : Classes) (a : ℕ) (b : Class) → new.possible ≡ old.possible → new.items.items ≡ map (swapped a b) old.items.items → class_of old.items.items (Same a) ≡ Same a →
    (js : List Sort) → Agree new js ↔ (Agree old js × (get_or js a Set ≡ sort_of_class js b))
joined_first old new a b p d own js =
    let P : List Class → Type 0 = λ l. Say l js in (
      λ h. (let m = say_more old.items.items a b js own (subst P d h.1) in ((sym p ∙ h.0, m.0), m.1)),
      λ h. (p ∙ h.0.0, subst P (sym d) (say_less old.items.items a b js h.0.1 h.1)),
    )

joined_second : (old new : Classes) (a : ℕ) (b : Class) → new.possible ≡ old.possible → new.items.items ≡ map (swapped a b) old.items.items → class_of old.items.items (Same a) ≡ Same a →
    (js : List Sort) → Agree new js ↔ (Agree old js × (sort_of_class js b ≡ get_or js a Set))
joined_second old new a b p d own js =
    let f = joined_first old new a b p d own js in
    (λ h. ((f.0 h).0, sym (f.0 h).1), λ h. f.1 (h.0, sym h.1))

pub joined_left : (old new : Classes) (left right : Class) (a : ℕ) → left ≡ Same a → new.possible ≡ old.possible → new.items.items ≡ map (swapped a right) old.items.items → class_of old.items.items left ≡ left →
    (js : List Sort) → Agree new js ↔ (Agree old js × (sort_of_class js left ≡ sort_of_class js right))
joined_left old new left right a e p d own js =
    let P : Class → Type 0 = λ c. Agree new js ↔ (Agree old js × (sort_of_class js c ≡ sort_of_class js right)) in
    let Q : Class → Type 0 = λ c. class_of old.items.items c ≡ c in
    subst P (sym e) (joined_first old new a right p d (subst Q e own) js)

pub joined_right : (old new : Classes) (left right : Class) (a : ℕ) → right ≡ Same a → new.possible ≡ old.possible → new.items.items ≡ map (swapped a left) old.items.items → class_of old.items.items right ≡ right →
    (js : List Sort) → Agree new js ↔ (Agree old js × (sort_of_class js left ≡ sort_of_class js right))
joined_right old new left right a e p d own js =
    let P : Class → Type 0 = λ c. Agree new js ↔ (Agree old js × (sort_of_class js left ≡ sort_of_class js c)) in
    let Q : Class → Type 0 = λ c. class_of old.items.items c ≡ c in
    subst P (sym e) (joined_second old new a left p d (subst Q e own) js)

-- two sorts

pub sorts_same : (k l : Sort) → same_sort k l ≡ true → k ≡ l
sorts_same Set Set e = refl
sorts_same Relation Relation e = refl
sorts_same Set Relation e = absurd (let f : false ≡ true = e in cc)
sorts_same Relation Set e = absurd (let f : false ≡ true = e in cc)

pub sorts_apart : (k l : Sort) → same_sort k l ≡ false → k ≡ l → ⊥
sorts_apart Set Set e f = (let g : true ≡ false = e in cc)
sorts_apart Relation Relation e f = (let g : true ≡ false = e in cc)
sorts_apart Set Relation e f = cc
sorts_apart Relation Set e f = cc

pub joined_known : (old : Classes) (left right : Class) (k l : Sort) → left ≡ Known k → right ≡ Known l → same_sort k l ≡ true → (js : List Sort) → Agree old js ↔ (Agree old js × (sort_of_class js left ≡ sort_of_class js right))
joined_known old left right k l e f t js = (λ h. (h, ap (sort_of_class js) e ∙ sorts_same k l t ∙ sym (ap (sort_of_class js) f)), λ h. h.0)

pub joined_apart : (old new : Classes) (left right : Class) (k l : Sort) → left ≡ Known k → right ≡ Known l → same_sort k l ≡ false → ((js : List Sort) → Agree new js → ⊥) → (js : List Sort) → Agree new js ↔ (Agree old js × (sort_of_class js left ≡ sort_of_class js right))
joined_apart old new left right k l e f t never js = (λ h. absurd (never js h), λ h. absurd (sorts_apart k l t (sym (ap (sort_of_class js) e) ∙ h.1 ∙ ap (sort_of_class js) f)))

-- any two classes, by those that stand for them
joined_any : (old new : Classes) (a b : Class) → ((js : List Sort) → Agree new js ↔ (Agree old js × (sort_of_class js (class_of old.items.items a) ≡ sort_of_class js (class_of old.items.items b)))) →
    (js : List Sort) → Agree new js ↔ (Agree old js × (sort_of_class js a ≡ sort_of_class js b))
joined_any old new a b f js = (
  λ h. (let g = (f js).0 h in (g.0, sym (class_sort old.items.items js a g.0.1) ∙ g.1 ∙ class_sort old.items.items js b g.0.1)),
  λ h. (f js).1 (h.0, class_sort old.items.items js a h.0.1 ∙ h.1 ∙ sym (class_sort old.items.items js b h.0.1)),
)

-- a class's class is its own
pub own_class : (cs : List Class) (c : Class) → AreFlat cs → class_of cs (class_of cs c) ≡ class_of cs c
own_class cs (Known k) h = refl
own_class cs (Same i) h = h i

-- parameters in classes of their own

abbrev IsOwn : ℕ → List Class → Type 0
IsOwn n cs = (i : ℕ) → ((i < n) × (get_or cs i (Known Set) ≡ Same i)) ⊎ ((n ≤ i) × (get_or cs i (Known Set) ≡ Known Set))

own_more : (n : ℕ) (cs : List Class) → length cs ≡ n → IsOwn n cs → IsOwn (suc n) (cs ++ Same n ∷ [])
own_more n cs e h i = by (h i)
  where
    before : (ds : List Class) (d : Class) (k : ℕ) → k < length ds → get_or (ds ++ d ∷ []) k (Known Set) ≡ get_or ds k (Known Set)
    before [] d k l = absurd (omega (arith, l))
    before (b ∷ ds) d zero l = refl
    before (b ∷ ds) d (suc k) l = before ds d k (omega (arith, l))

    last : (ds : List Class) (d : Class) (k : ℕ) → k ≡ length ds → get_or (ds ++ d ∷ []) k (Known Set) ≡ d
    last [] d zero l = refl
    last [] d (suc k) l = absurd (omega (arith, l))
    last (b ∷ ds) d zero l = absurd (omega (arith, l))
    last (b ∷ ds) d (suc k) l = last ds d k (omega (arith, l))

    behind : (ds : List Class) (d : Class) (k : ℕ) → length ds < k → get_or (ds ++ d ∷ []) k (Known Set) ≡ Known Set
    behind [] d zero l = absurd (omega (arith, l))
    behind [] d (suc k) l = refl
    behind (b ∷ ds) d zero l = absurd (omega (arith, l))
    behind (b ∷ ds) d (suc k) l = behind ds d k (omega (arith, l))

    by : ((i < n) × (get_or cs i (Known Set) ≡ Same i)) ⊎ ((n ≤ i) × (get_or cs i (Known Set) ≡ Known Set)) → ((i < suc n) × (get_or (cs ++ Same n ∷ []) i (Known Set) ≡ Same i)) ⊎ ((suc n ≤ i) × (get_or (cs ++ Same n ∷ []) i (Known Set) ≡ Known Set))
    by (inl l) = (let a = l.0 in inl (omega (arith, a), before cs (Same n) i (omega (arith, a, e)) ∙ l.1))
    by (inr l) = (let a = l.0 in elim (cases_lt n i) [
      | inl b ↦ inr (omega (arith, b), behind cs (Same n) i (omega (arith, b, e)))
      | inr b ↦ (let f : i ≡ n = omega (arith, a, b) in inl (omega (arith, b), last cs (Same n) i (omega (arith, f, e)) ∙ ap Same (sym f)))
    ])

pub own_long : (n : ℕ) → length (own_classes n) ≡ n
own_long zero = refl
own_long (suc n) = (let h = own_long n in let k = length_push (own_classes n) (Same n) in omega (arith, h, k))

own_all : (n : ℕ) → IsOwn n (own_classes n)
own_all zero = λ i. inr (omega arith, refl)
own_all (suc n) = own_more n (own_classes n) (own_long n) (own_all n)

pub own_flat : (n : ℕ) (cs : List Class) → cs ≡ own_classes n → AreFlat cs
own_flat n cs e = (let P : List Class → Type 0 = λ l. AreFlat l in subst P (sym e) (λ i. by i (own_all n i)))
  where
    by : (i : ℕ) → ((i < n) × (get_or (own_classes n) i (Known Set) ≡ Same i)) ⊎ ((n ≤ i) × (get_or (own_classes n) i (Known Set) ≡ Known Set)) → class_of (own_classes n) (get_or (own_classes n) i (Known Set)) ≡ get_or (own_classes n) i (Known Set)
    by i (inl l) = ap (class_of (own_classes n)) l.1
    by i (inr l) = ap (class_of (own_classes n)) l.1 ∙ sym l.1

beyond : (js : List Sort) (i : ℕ) → length js ≤ i → get_or js i Set ≡ Set
beyond [] i l = refl
beyond (j ∷ js) zero l = absurd (omega (arith, l))
beyond (j ∷ js) (suc i) l = beyond js i (omega (arith, l))

pub own_agree : (n : ℕ) (c : Classes) → c.possible ≡ true → c.items.items ≡ own_classes n → (js : List Sort) → length js ≡ n → Agree c js
own_agree n c p e js l = (p, (let P : List Class → Type 0 = λ cs. Say cs js in subst P (sym e) (λ i. by i (own_all n i))))
  where
    by : (i : ℕ) → ((i < n) × (get_or (own_classes n) i (Known Set) ≡ Same i)) ⊎ ((n ≤ i) × (get_or (own_classes n) i (Known Set) ≡ Known Set)) → get_or js i Set ≡ sort_of_class js (get_or (own_classes n) i (Known Set))
    by i (inl h) = sym (ap (sort_of_class js) h.1)
    by i (inr h) = (let a = h.0 in beyond js i (omega (arith, a, l)) ∙ sym (ap (sort_of_class js) h.1))

pub joined_by : (old new : Classes) (a b c d : Class) → c ≡ class_of old.items.items a → d ≡ class_of old.items.items b → ((js : List Sort) → Agree new js ↔ (Agree old js × (sort_of_class js c ≡ sort_of_class js d))) →
    (js : List Sort) → Agree new js ↔ (Agree old js × (sort_of_class js a ≡ sort_of_class js b))
joined_by old new a b c d e f h =
    let P : Class → Type 0 = λ x. (js : List Sort) → Agree new js ↔ (Agree old js × (sort_of_class js x ≡ sort_of_class js d)) in
    let Q : Class → Type 0 = λ x. (js : List Sort) → Agree new js ↔ (Agree old js × (sort_of_class js (class_of old.items.items a) ≡ sort_of_class js x)) in
    joined_any old new a b (subst Q f (subst P e h))
