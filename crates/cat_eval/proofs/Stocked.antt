-- Where the names of an execution are decided, they have values, and so has each expression that has a sort; each item binds something.
use Rattle.std.proofs.Common.{◌≡◌, ℕ, zero, suc, ◌<◌, List, [], ◌∷◌, true, Option, Some, None, option_map, refl, sym, ◌∙◌, subst, inl, inr, arith}
use Rattle.std.specs.List.{All}
use Rattle.std.specs.Str.{bytes_eq}
use Rattle.std.proofs.lemmas.Bool.{cases_Bool, cases_lt, false≢true}
use Rattle.std.proofs.lemmas.List.Elements.{All-head, All-tail}
use Rattle.std.proofs.lemmas.Slice.Eq.{bytes_eq-Decides}
use Rattle.listings.specs.Lists.{ForEach}
use Rattle.listings.proofs.Telling.{Told, told_truth, told_as}
use Rattle.cat_tree.specs.declared.node.Infix.TheVariants as infixes
use Rattle.cat_tree.specs.declared.node.Sign.TheVariants as signs
use Rattle.cat_tree.specs.Tree.{Word}
use Rattle.cat_model.specs.Named.{named_of, sort_of_named}
use Rattle.cat_model.specs.declared.named.Named.{Named}
use Rattle.cat_model.specs.declared.named.Named.TheVariants.{Set, Rel}
use Rattle.cat_model.specs.declared.sort.Sort.{Sort}
use Rattle.cat_model.specs.declared.sort.Sort.TheVariants.{Relation as OfPairs}
use Rattle.events.specs.Executions.{GraphValue}
use Rattle.events.specs.Named.{event_count, NamedSet, NamedRel}
use Rattle.events.specs.Opened.{IsDecided, SetsAreDecided, RelationsAreDecided}
use Rattle.cat_eval.specs.declared.value.Value.{Value}
use Rattle.cat_eval.specs.declared.value.Entry.{Entry}
use Rattle.cat_eval.specs.Core.{Term, union, sequence, difference, intersection, product, complement, plus, star, optional, inverse, domain, range, identity, name, empty_relation, empty_set, universe, Bound, Clause, bind, bind_recursively, check, include, show, unshow, Scope, HasSort, Bind, Follows, recursive, sort_of_name}
use Rattle.cat_eval.specs.CoreJudging.{Names, Binds}
use Rattle.cat_eval.specs.CoreMeaning.{With, Under, AreBound, IsLeast}
use Rattle.cat_eval.specs.Names.{Beforehand}
use Rattle.cat_eval.specs.Steps.{sort_of, scope_of, IsEmptyEntry}
use Rattle.cat_eval.proofs.Climbing.{IsBase, IsGroup, Climbs, start, climb, top, missing, missing_tight, round_like}
use Rattle.cat_eval.proofs.Environments.{under_fits}
use Rattle.cat_eval.proofs.Execution.{names_fit}
use Rattle.cat_eval.proofs.Groups.{IsLike, scope_of_group}
use Rattle.cat_eval.proofs.Sorting.{Fits}
use Rattle.cat_eval.proofs.Valued.{a_set, a_relation, no_pairs, no_events, every_event, HasValue, sign_value, infix_value}

-- NAMES AND EXPRESSIONS

-- Names have values of their sorts.
pub record Stocked (E : Word → Value → Type 0) (s : Scope) : Type 0 where
  pub fits : Fits E s
  pub names : (x : Word) (k : Sort) → sort_of_name s x ≡ Some k → (v : Value) × E x v

-- So has each expression that has a sort.
pub term_value : (n : ℕ) (E : Word → Value → Type 0) (s : Scope) → Stocked E s → (a : Term) → HasValue n E s a
term_value n E s t (union a b) = infix_value n E s t.fits infixes.Union a b (term_value n E s t a) (term_value n E s t b)
term_value n E s t (sequence a b) = infix_value n E s t.fits infixes.Sequence a b (term_value n E s t a) (term_value n E s t b)
term_value n E s t (difference a b) = infix_value n E s t.fits infixes.Difference a b (term_value n E s t a) (term_value n E s t b)
term_value n E s t (intersection a b) = infix_value n E s t.fits infixes.Intersection a b (term_value n E s t a) (term_value n E s t b)
term_value n E s t (product a b) = infix_value n E s t.fits infixes.Product a b (term_value n E s t a) (term_value n E s t b)
term_value n E s t (complement a) = sign_value n E s t.fits signs.Complement a (term_value n E s t a)
term_value n E s t (plus a) = sign_value n E s t.fits signs.Plus a (term_value n E s t a)
term_value n E s t (star a) = sign_value n E s t.fits signs.Star a (term_value n E s t a)
term_value n E s t (optional a) = sign_value n E s t.fits signs.Optional a (term_value n E s t a)
term_value n E s t (inverse a) = sign_value n E s t.fits signs.Inverse a (term_value n E s t a)
term_value n E s t (domain a) = sign_value n E s t.fits signs.Domain a (term_value n E s t a)
term_value n E s t (range a) = sign_value n E s t.fits signs.Range a (term_value n E s t a)
term_value n E s t (identity a) = sign_value n E s t.fits signs.Identity a (term_value n E s t a)
term_value n E s t (name x) = λ k h. t.names x k h
term_value n E s t empty_relation = λ k h. no_pairs n
term_value n E s t empty_set = λ k h. no_events n
term_value n E s t universe = λ k h. every_event n

told_decided : (P : Type 0) → IsDecided P → Told P
told_decided P d = told_as (d.0 ≡ true) P d.1.0 d.1.1 (told_truth d.0)

-- What a name stands for before any binding.
pub named_value : SetsAreDecided → RelationsAreDecided → (g : GraphValue) (m : Named) → (v : Value) × Beforehand g (Some m) v
named_value sets relations g (Set s) = a_set (event_count g) (NamedSet g s) (λ i. told_decided (NamedSet g s i) (sets g s i))
named_value sets relations g (Rel r) = a_relation (event_count g) (NamedRel g r) (λ i j. told_decided (NamedRel g r i j) (relations g r i j))

none_some : (k : Sort) → ◌≡◌ {A = Option Sort} None (Some k) → ⊥
none_some k e = cc

before_value : SetsAreDecided → RelationsAreDecided → (g : GraphValue) (o : Option Named) (k : Sort) → option_map sort_of_named o ≡ Some k → (v : Value) × Beforehand g o v
before_value sets relations g None k e = absurd (none_some k e)
before_value sets relations g (Some m) k e = named_value sets relations g m

-- The names of an execution have values.
pub stocked_names : SetsAreDecided → RelationsAreDecided → (g : GraphValue) → Stocked (Names g) []
stocked_names sets relations g = record { fits = names_fit g; names = λ x k e. before_value sets relations g (named_of x) k e }

stocked_with : (E : Word → Value → Type 0) (s : Scope) (e : Entry) → Stocked E s → Stocked (With E e) ((e.name, sort_of e.value) ∷ s)
stocked_with E s e t = record {
  fits = under_fits E s (e ∷ []) t.fits;
  names = λ x k. elim (cases_Bool (bytes_eq e.name x)) [
    | inl b ↦ λ h. (e.value, inl (sym ((bytes_eq-Decides e.name x).0 b), refl))
    | inr b ↦ rw b (λ h. (let v = t.names x k h in (v.0, inr (λ d. false≢true (sym b ∙ (bytes_eq-Decides e.name x).1 (sym d)), v.1))))
  ];
}

-- So have those under more bindings.
pub stocked_under : (E : Word → Value → Type 0) (s : Scope) (es : List Entry) → Stocked E s → Stocked (Under E es) (scope_of s es)
stocked_under E s [] t = t
stocked_under E s (e ∷ es) t = stocked_under (With E e) ((e.name, sort_of e.value) ∷ s) es (stocked_with E s e t)

-- GROUPS

-- A round has values.
round_values : (n : ℕ) (E : Word → Value → Type 0) (s : Scope) (bs : List Bound) → Stocked E s → All (λ b. HasSort s b.value OfPairs) bs → (es : List Entry) × AreBound n E bs es
round_values n E s [] k h = ([], tt)
round_values n E s (b ∷ bs) k h =
    let P : Bound → Type 0 = λ b. HasSort s b.value OfPairs in
    let v = term_value n E s k b.value OfPairs (All-head P b bs h) in
    let r = round_values n E s bs k (All-tail P b bs h) in
    ((let e : Entry = record { name = b.name; value = v.0 } in e) ∷ r.0, (record { name = refl; value = v.1 }, r.1))

empty_values : (n : ℕ) (bs : List Bound) → (es : List Entry) × ForEach (IsEmptyEntry n) bs es
empty_values n [] = ([], tt)
empty_values n (b ∷ bs) =
    let v = no_pairs n in
    let r = empty_values n bs in
    ((let e : Entry = record { name = b.name; value = v.0 } in e) ∷ r.0, (record { name = refl; value = v.1 }, r.1))

-- Rounds from any state of a climb reach a least solution, which keeps what rounds keep.
climbed : (n : ℕ) (E : Word → Value → Type 0) (s : Scope) (bs : List Bound) (Q : List Entry → Type 0) → IsBase n E s → Stocked E s → IsGroup s bs →
    ((gs es : List Entry) → ForEach (IsLike n) bs gs → Q gs → AreBound n (Under E gs) bs es → Q es) →
    (m : ℕ) (gs : List Entry) → missing n gs < m → Climbs n E bs gs → Q gs → (es : List Entry) × IsLeast n E bs es × Q es
climbed n E s bs Q b k g f zero gs l c q = absurd (omega (arith, l))
climbed n E s bs Q b k g f (suc m) gs l c q =
    let S : Scope → Type 0 = λ t. Stocked (Under E gs) t in
    let t : Stocked (Under E gs) (recursive bs s) = subst S (scope_of_group n s bs gs c.like) (stocked_under E s gs k) in
    let r = round_values n (Under E gs) (recursive bs s) bs t g.sorted in
    let like : ForEach (IsLike n) bs r.0 = round_like n E s bs gs r.0 b g c.like r.1 in
    elim (cases_lt (missing n r.0) (missing n gs)) [
      | inl less ↦ climbed n E s bs Q b k g f m r.0 (omega (arith, l, less)) (climb n E s bs gs r.0 b g c r.1) (f gs r.0 c.like q r.1)
      | inr same ↦ (gs, top n E s bs gs r.0 b g c r.1 (missing_tight n bs gs r.0 like (c.up r.0 r.1) same), q)
    ]

-- There is a least solution.
pub least_values : (n : ℕ) (E : Word → Value → Type 0) (s : Scope) (bs : List Bound) (Q : List Entry → Type 0) → IsBase n E s → Stocked E s → IsGroup s bs →
    ((gs : List Entry) → ForEach (IsEmptyEntry n) bs gs → Q gs) → ((gs es : List Entry) → ForEach (IsLike n) bs gs → Q gs → AreBound n (Under E gs) bs es → Q es) → (es : List Entry) × IsLeast n E bs es × Q es
least_values n E s bs Q b k g z f =
    let r = empty_values n bs in
    climbed n E s bs Q b k g f (suc (missing n r.0)) r.0 (omega arith) (start n E s bs r.0 b g r.1) (z r.0 r.1)

-- ITEMS

-- A `let` binds something.
let_values : (n : ℕ) (E : Word → Value → Type 0) (s t u : Scope) (bs : List Bound) → Stocked E s → Bind s bs t u → (es : List Entry) × AreBound n E bs es
let_values n E s t u [] k h = ([], tt)
let_values n E s t u (b ∷ bs) k h =
    let v = term_value n E s k b.value h.0 h.1 in
    let r = let_values n E s ((b.name, h.0) ∷ t) u bs k h.2 in
    ((let e : Entry = record { name = b.name; value = v.0 } in e) ∷ r.0, (record { name = refl; value = v.1 }, r.1))

-- what is known of a group that is in order
pub group_in_order : (s t : Scope) (bs : List Bound) → Follows s (bind_recursively bs) t → IsGroup s bs
group_in_order s t bs h = let P : Scope → Type 0 = λ u. All (λ b. HasSort u b.value OfPairs) bs in record { sorted = subst P h.0 h.1; monotone = h.2 }

-- So does each item.
pub item_values : (n : ℕ) (E : Word → Value → Type 0) (s t : Scope) (c : Clause) → IsBase n E s → Stocked E s → Follows s c t → (es : List Entry) × Binds n E c es
item_values n E s t (bind bs) b k h = let_values n E s s t bs k h
item_values n E s t (bind_recursively bs) b k h =
    let r = least_values n E s bs (λ es. Unit {0}) b k (group_in_order s t bs h) (λ es z. tt) (λ es fs l q z. tt) in
    (r.0, r.1)
item_values n E s t (check flag negated kind a x) b k h = ([], refl)
item_values n E s t (include x) b k h = absurd h
item_values n E s t (show es) b k h = ([], refl)
item_values n E s t (unshow xs) b k h = ([], refl)
