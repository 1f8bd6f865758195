-- Names of a group that are denied.
use Rattle.std.proofs.Common.{◌≡◌, ◌<◌, ◌≤◌, ◌⊎◌, ◌∙◌, arith, ℕ, zero, suc, ◌+◌, length, take, get_or, List, [], ◌∷◌, map, Bool, true, false, ◌||◌, inl, inr, Option, None, Some, ap, sym, subst, refl}
use Rattle.std.specs.Prelude.{MatchOption}
use Rattle.std.specs.List.{Contains}
use Rattle.std.proofs.lemmas.List.{length-map}
use Rattle.cat_tree.specs.Tree.{Word, Term, Bound}
use Rattle.cat_model.specs.Denials.{Mark, Marking, marks, with_mark, grouped, denied_in, denied_if}
use Rattle.cat_model.specs.Marked.{Comes, FitMarks, given_marks, Traced, IsDeniedName}
use Rattle.cat_model.specs.declared.denials.Trace.{Trace}
use Rattle.cat_model.specs.declared.scope.BoundName.{BoundName}
use Rattle.cat_model.proofs.Members.{nothing_in, contains_first, contains_later, contains_cases, contains_one, taken_more, all_taken}

abbrev itself : Word → List Mark
itself x = record { name = x; denied = false } ∷ []

abbrev names_in : List Bound → List Word
names_in bs = map (λ b. b.name) bs

grouped_is : (bs : List Bound) (M : Marking) → grouped bs M ≡ given_marks M (names_in bs) (map itself (names_in bs))
grouped_is [] M = refl
grouped_is (b ∷ bs) M = grouped_is bs (with_mark M b.name (λ _. itself b.name))

itself_at : (xs : List Word) (i : ℕ) (m : Mark) → Contains (get_or (map itself xs) i []) m → (i < length xs) × (m ≡ record { name = get_or xs i []; denied = false })
itself_at [] i m h = absurd (nothing_in m h)
itself_at (x ∷ xs) zero m h = (omega arith, sym (contains_one (record { name = x; denied = false }) m h))
itself_at (x ∷ xs) (suc i) m h = (let r = itself_at xs i m h in let l = r.0 in (omega (arith, l), r.1))

at_itself : (xs : List Word) (i : ℕ) → i < length xs → Contains (get_or (map itself xs) i []) (record { name = get_or xs i []; denied = false })
at_itself [] i l = absurd (omega (arith, l))
at_itself (x ∷ xs) zero l = (let m : Mark = record { name = x; denied = false } in contains_first m [] m refl)
at_itself (x ∷ xs) (suc i) l = at_itself xs i (omega (arith, l))

denied_there : (ms : List Mark) (x : Word) → Contains ms (record { name = x; denied = true }) → Contains (denied_in ms) x
denied_there [] x h = absurd (nothing_in _ h)
denied_there (m ∷ ms) x h = by m.denied refl (contains_cases m ms (record { name = x; denied = true }) h) (denied_there ms x)
  where
    by : (b : Bool) → m.denied ≡ b → (m ≡ record { name = x; denied = true }) ⊎ Contains ms (record { name = x; denied = true }) → (Contains ms (record { name = x; denied = true }) → Contains (denied_in ms) x) → Contains (denied_if m.denied m.name (denied_in ms)) x
    by true e h rest = (let P : Bool → Type 0 = λ d. Contains (denied_if d m.name (denied_in ms)) x in subst P (sym e) (either h))
      where
        either : (m ≡ record { name = x; denied = true }) ⊎ Contains ms (record { name = x; denied = true }) → Contains (m.name ∷ denied_in ms) x
        either (inl f) = contains_first m.name (denied_in ms) x (ap (λ n. n.name) f)
        either (inr g) = contains_later m.name (denied_in ms) x (rest g)
    by false e (inl f) rest = absurd (let g : false ≡ true = sym e ∙ ap (λ n. n.denied) f in cc)
    by false e (inr g) rest = (let P : Bool → Type 0 = λ d. Contains (denied_if d m.name (denied_in ms)) x in subst P (sym e) (rest g))

none_denied : (ms : List Mark) → ((x : Word) → Contains ms (record { name = x; denied = true }) → ⊥) → denied_in ms ≡ []
none_denied [] h = refl
none_denied (m ∷ ms) h = by m.denied refl (none_denied ms (λ x c. h x (contains_later m ms (record { name = x; denied = true }) c)))
  where
    by : (b : Bool) → m.denied ≡ b → denied_in ms ≡ [] → denied_if m.denied m.name (denied_in ms) ≡ []
    by true e rest = absurd (h m.name (contains_first m ms (record { name = m.name; denied = true }) (ap (λ d. record { name = m.name; denied = d }) e)))
    by false e rest = ap (λ d. denied_if d m.name (denied_in ms)) e ∙ rest

-- a name that is denied in a group, or none

pub denied_some : (ns : List BoundName) (bs : List Bound) (xs : List Word) (t : Term) (ts : List Trace) (x : Word) → xs ≡ names_in bs → Traced ns xs ts t → IsDeniedName ts xs x → (M : Marking) → FitMarks ns M → Contains (denied_in (marks (grouped bs M) t)) x
denied_some ns bs xs t ts x e h d M f =
    let P : Word → Type 0 = λ y. Contains (denied_in (marks (grouped bs M) t)) y in
    subst P (sym d.is) (denied_there (marks (grouped bs M) t) (get_or xs d.place []) mark)
  where
    long : length xs ≤ length (map itself xs)
    long = (let k = length-map xs itself in omega (arith, k))

    same : given_marks M xs (map itself xs) ≡ grouped bs M
    same = ap (λ ys. given_marks M ys (map itself ys)) e ∙ sym (grouped_is bs M)

    mark : Contains (marks (grouped bs M) t) (record { name = get_or xs d.place []; denied = true })
    mark =
        let tr : Trace = record { place = d.place; denied = true } in
        let Q : Marking → Type 0 = λ N. Contains (marks N t) (record { name = get_or xs d.place []; denied = true }) in
        subst Q same ((h M f (map itself xs) long (record { name = get_or xs d.place []; denied = true })).1 (record {
          trace = tr;
          among = d.among;
          inner = record { name = get_or xs d.place []; denied = false };
          there = at_itself xs d.place d.inside;
          is = refl;
        }))

pub denied_none : (ns : List BoundName) (bs : List Bound) (xs : List Word) (t : Term) (ts : List Trace) → xs ≡ names_in bs → Traced ns xs ts t → ((i : ℕ) → i < length xs → Contains ts (record { place = i; denied = true }) → ⊥) → (M : Marking) → FitMarks ns M →
    denied_in (marks (grouped bs M) t) ≡ []
denied_none ns bs xs t ts e h d M f = none_denied (marks (grouped bs M) t) none
  where
    long : length xs ≤ length (map itself xs)
    long = (let k = length-map xs itself in omega (arith, k))

    same : grouped bs M ≡ given_marks M xs (map itself xs)
    same = grouped_is bs M ∙ ap (λ ys. given_marks M ys (map itself ys)) (sym e)

    is_true : (b : Bool) → true ≡ b || false → b ≡ true
    is_true true x = refl
    is_true false x = sym x

    never : (x : Word) → Comes ts (map itself xs) (record { name = x; denied = true }) → ⊥
    never x c =
        let r = itself_at xs c.trace.place c.inner c.there in
        let g : c.trace.denied ≡ true = is_true c.trace.denied (ap (λ n. n.denied) c.is ∙ ap (λ n. c.trace.denied || n.denied) r.1) in
        let Q : Bool → Type 0 = λ b. Contains ts (record { place = c.trace.place; denied = b }) in
        d c.trace.place r.0 (subst Q g c.among)

    none : (x : Word) → Contains (marks (grouped bs M) t) (record { name = x; denied = true }) → ⊥
    none x c = (let Q : Marking → Type 0 = λ N. Contains (marks N t) (record { name = x; denied = true }) in never x ((h M f (map itself xs) long (record { name = x; denied = true })).0 (subst Q same c)))

-- one more trace that is not denied, or of no name

pub passed_allowed : (ts : List Trace) (i n : ℕ) (t : Trace) → i < length ts → t ≡ get_or ts i t → t.denied ≡ false → ((j : ℕ) → j < n → Contains (take i ts) (record { place = j; denied = true }) → ⊥) → (j : ℕ) → j < n → Contains (take (i + 1) ts) (record { place = j; denied = true }) → ⊥
passed_allowed ts i n t l e d h j m c = elim ((taken_more ts i (record { place = j; denied = true }) t l e).0 c) [
  | inl a ↦ h j m a
  | inr a ↦ absurd (let g : false ≡ true = sym d ∙ ap (λ u. u.denied) a in cc)
]

pub passed_nowhere : (ts : List Trace) (i n : ℕ) (t : Trace) → i < length ts → t ≡ get_or ts i t → n ≤ t.place → ((j : ℕ) → j < n → Contains (take i ts) (record { place = j; denied = true }) → ⊥) → (j : ℕ) → j < n → Contains (take (i + 1) ts) (record { place = j; denied = true }) → ⊥
passed_nowhere ts i n t l e d h j m c = elim ((taken_more ts i (record { place = j; denied = true }) t l e).0 c) [
  | inl a ↦ h j m a
  | inr a ↦ (let g : t.place ≡ j = ap (λ u. u.place) a in absurd (omega (arith, g, d, m)))
]

pub passed_all : (ts : List Trace) (i n : ℕ) → length ts ≤ i → ((j : ℕ) → j < n → Contains (take i ts) (record { place = j; denied = true }) → ⊥) → (j : ℕ) → j < n → Contains ts (record { place = j; denied = true }) → ⊥
passed_all ts i n l h j m c = (let P : List Trace → Type 0 = λ us. Contains us (record { place = j; denied = true }) in h j m (subst P (sym (all_taken i ts l)) c))

pub match_if : {X : Type 0} (o : Option X) (A B : Type 0) (P Q : X → Type 0) → (A → B) → ((x : X) → P x → Q x) → MatchOption o A P → MatchOption o B Q
match_if None A B P Q f g h = f h
match_if (Some x) A B P Q f g h = g x h
