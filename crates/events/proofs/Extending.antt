-- What extension does to sets and relations.
use Rattle.std.proofs.Common.{◌≡◌, ◌↔◌, ◌⊎◌, ℕ, zero, suc, ◌+◌, ◌≤◌, List, [], ◌∷◌, sym, ◌∙◌, subst, inl, inr, arith}
use Rattle.listings.specs.Lists.{StandsAt}
use Rattle.events.specs.declared.event.EventId.{EventId}
use Rattle.events.specs.declared.named.SetName.{SetName}
use Rattle.events.specs.declared.named.RelName.{RelName}
use Rattle.events.specs.declared.named.Basis.TheVariants.{Runs}
use Rattle.events.specs.Bases.{basis_of}
use Rattle.events.specs.Executions.{GraphValue, ThreadRun, IsNamed, IsGraph}
use Rattle.events.specs.Named.{ReadsFrom, IsCoherenceBefore, StandsFrom, StandsBefore, NamedSet, NamedRel}
use Rattle.events.specs.Structures.{structure_of}
use Rattle.events.proofs.Bases.{same_sets, same_on_runs, all_kept}
use Rattle.events.proofs.Shapes.{reads_same}
use Rattle.events.proofs.Structures.{same_structure}
use Rattle.std.specs.List.{All}
use Rattle.std.proofs.lemmas.List.Elements.{All-nil, All-cons, All-head, All-tail}
use Rattle.events.specs.Extends.{IsNobody, IsPart, IsPartOfOne, Extends}

pub one_structure : (g h : GraphValue) → Extends g h → structure_of g ≡ structure_of h
one_structure g h e = same_structure g h.init h.runs e.init e.runs

pub sets_stay : (g h : GraphValue) → Extends g h → (name : SetName) (i : ℕ) → NamedSet g name i ↔ NamedSet h name i
sets_stay g h e name i = (same_sets g h (one_structure g h e) name i, same_sets h g (sym (one_structure g h e)) name i)

pub relations_stay : (g h : GraphValue) → Extends g h → (name : RelName) → basis_of name ≡ Runs → (i j : ℕ) → NamedRel g name i j ↔ NamedRel h name i j
relations_stay g h e name b i j = (same_on_runs g h (one_structure g h e) name b i j, same_on_runs h g (sym (one_structure g h e)) name b i j)

-- what stands from some place on stands so behind one more
shifted : (y : EventId) (ys : List EventId) (e : EventId) (k : ℕ) → StandsFrom ys k e → StandsFrom (y ∷ ys) (suc k) e
shifted y ys e k s = (suc s.0, (let l : k ≤ s.0 = s.1 in omega (arith, l)), s.2)

lower : (ys : List EventId) (e : EventId) (k m : ℕ) → m ≤ k → StandsFrom ys k e → StandsFrom ys m e
lower ys e k m l s = (s.0, (let r : k ≤ s.0 = s.1 in omega (arith, l, r)), s.2)

-- what stands in a part stands in the whole
part_at : (xs ys : List EventId) (i : ℕ) (x : EventId) → IsPart xs ys → StandsAt xs i x → StandsFrom ys 0 x
part_at [] ys i x p s = absurd s
part_at (z ∷ xs) [] i x p s = absurd p
part_at (z ∷ xs) (y ∷ ys) zero x p s = elim p [
  | inl q ↦ (0, omega arith, s ∙ q.0)
  | inr q ↦ lower (y ∷ ys) x 1 0 (omega arith) (shifted y ys x 0 (part_at (z ∷ xs) ys zero x q s))
]
part_at (z ∷ xs) (y ∷ ys) (suc i) x p s = elim p [
  | inl q ↦ lower (y ∷ ys) x 1 0 (omega arith) (shifted y ys x 0 (part_at xs ys i x q.1 s))
  | inr q ↦ lower (y ∷ ys) x 1 0 (omega arith) (shifted y ys x 0 (part_at (z ∷ xs) ys (suc i) x q s))
]

later : (y : EventId) (ys : List EventId) (d e : EventId) → StandsBefore ys d e → StandsBefore (y ∷ ys) d e
later y ys d e s = (suc s.0, s.1, (let t : StandsFrom (y ∷ ys) (suc (s.0 + 1)) e = shifted y ys e (s.0 + 1) s.2 in lower (y ∷ ys) e (suc (s.0 + 1)) (suc s.0 + 1) (omega arith) t))

unshifted_at : (z : EventId) (xs : List EventId) (k b : ℕ) (e : EventId) → suc k ≤ b → StandsAt (z ∷ xs) b e → StandsFrom xs k e
unshifted_at z xs k zero e l s = absurd (omega (arith, l))
unshifted_at z xs k (suc b) e l s = (b, omega (arith, l), s)

unshifted : (z : EventId) (xs : List EventId) (k m : ℕ) (e : EventId) → m ≡ suc k → StandsFrom (z ∷ xs) m e → StandsFrom xs k e
unshifted z xs k m e q s = unshifted_at z xs k s.0 e (let l : m ≤ s.0 = s.1 in omega (arith, l, q)) s.2

kept_first : (z y : EventId) (xs ys : List EventId) (d e : EventId) → z ≡ y → ((k : ℕ) → StandsAt xs k e → StandsFrom ys 0 e) → (StandsBefore xs d e → StandsBefore ys d e) →
    (a : ℕ) → StandsAt (z ∷ xs) a d → StandsFrom (z ∷ xs) (a + 1) e → StandsBefore (y ∷ ys) d e
kept_first z y xs ys d e q f g zero s t =
    let u : StandsFrom xs 0 e = unshifted z xs 0 (0 + 1) e (omega arith) t in
    let v : StandsFrom (y ∷ ys) 1 e = shifted y ys e 0 (f u.0 u.2) in
    (0, s ∙ q, lower (y ∷ ys) e 1 (0 + 1) (omega arith) v)
kept_first z y xs ys d e q f g (suc a) s t = later y ys d e (g (a, s, unshifted z xs (a + 1) (suc a + 1) e (omega arith) t))

-- what stands before in a part does so in the whole
pub part_before : (xs ys : List EventId) (d e : EventId) → IsPart xs ys → StandsBefore xs d e → StandsBefore ys d e
part_before [] ys d e p s = absurd s.1
part_before (z ∷ xs) [] d e p s = absurd p
part_before (z ∷ xs) (y ∷ ys) d e p s = elim p [
  | inl q ↦ kept_first z y xs ys d e q.0 (λ k t. part_at xs ys k e q.1 t) (λ t. part_before xs ys d e q.1 t) s.0 s.1 s.2
  | inr q ↦ later y ys d e (part_before (z ∷ xs) ys d e q s)
]

pub all_at : {X : Type 0} (P : X → Type 0) (xs : List X) (i : ℕ) (x : X) → All P xs → StandsAt xs i x → P x
all_at P [] i x h s = absurd s
all_at P (y ∷ xs) zero x h s = subst P (sym s) (All-head P y xs h)
all_at P (y ∷ xs) (suc i) x h s = all_at P xs i x (All-tail P y xs h) s

pub coherence_before : (g h : GraphValue) → Extends g h → (d e : EventId) → IsCoherenceBefore g d e → IsCoherenceBefore h d e
coherence_before g h x d e c =
    let r : IsPartOfOne h.co c.1 = all_at (IsPartOfOne h.co) g.co c.0 c.1 x.co c.2 in
    (r.0, r.1, r.2, part_before c.1 r.1 d e r.3 c.3)

pub reads_from : (g h : GraphValue) → Extends g h → (w r : EventId) → ReadsFrom g w r → ReadsFrom h w r ⊎ IsNobody g w
reads_from g h x w r s =
    let P : List EventId → Type 0 = λ zs. StandsAt zs s.0 r in
    elim (x.rf s.0 w s.2) [ inl t ↦ inl (s.0, subst P (reads_same g h (one_structure g h x)) s.1, t) | inr n ↦ inr n ]

pub relations_grow : (g h : GraphValue) → Extends g h → (name : RelName) (i j : ℕ) → NamedRel g name i j → NamedRel h name i j
relations_grow g h x = all_kept g h (one_structure g h x) (reads_from g h x) (coherence_before g h x)

-- GRAPHS

all_part : (P : EventId → Type 0) (xs ys : List EventId) → IsPart xs ys → All P ys → All P xs
all_part P [] ys p h = All-nil P
all_part P (x ∷ xs) [] p h = absurd p
all_part P (x ∷ xs) (y ∷ ys) p h = elim p [
  | inl q ↦ All-cons P x xs (subst P (sym q.0) (All-head P y ys h)) (all_part P xs ys q.1 (All-tail P y ys h))
  | inr q ↦ all_part P (x ∷ xs) ys q (All-tail P y ys h)
]

all_parts : (P : EventId → Type 0) (xss yss : List (List EventId)) → All (IsPartOfOne yss) xss → All (All P) yss → All (All P) xss
all_parts P [] yss p h = All-nil (All P)
all_parts P (xs ∷ xss) yss p h =
    let q : IsPartOfOne yss xs = All-head (IsPartOfOne yss) xs xss p in
    All-cons (All P) xs xss (all_part P xs q.1 q.3 (all_at (All P) yss q.0 q.1 h q.2)) (all_parts P xss yss (All-tail (IsPartOfOne yss) xs xss p) h)

pub part_is_graph : (g h : GraphValue) → Extends g h → All (IsNamed g.init g.runs) g.rf → IsGraph h → IsGraph g
part_is_graph g h x f k =
    let F : List ℕ → Type 0 = λ init. (let z : GraphValue = record { init = init; runs = h.runs; rf = g.rf; co = g.co } in IsGraph z) in
    let G : List ThreadRun → Type 0 = λ runs. (let z : GraphValue = record { init = g.init; runs = runs; rf = g.rf; co = g.co } in IsGraph z) in
    let N : List ℕ → Type 0 = λ init. All (IsNamed init h.runs) g.rf in
    let M : List ThreadRun → Type 0 = λ runs. All (IsNamed g.init runs) g.rf in
    subst G x.runs (subst F x.init (record {
      few = k.few;
      rf = subst N (sym x.init) (subst M (sym x.runs) f);
      co = all_parts (IsNamed h.init h.runs) g.co h.co x.co k.co;
    }))
