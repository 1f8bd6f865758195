-- What depends on a structure alone, or on it and the read-from map, is the same in each execution that has these.
use Rattle.std.proofs.Common.{◌≡◌, ℕ, ◌≤◌, List, [], ◌∷◌, length, map, refl, sym, ap, ◌∙◌, subst, arith}
use Rattle.std.proofs.lemmas.List.{length-map}
use Rattle.relations.specs.Events.{EventSet, IsExactlySet}
use Rattle.relations.specs.Relation.{Relation, IsExactly}
use Rattle.events.specs.declared.event.Event.{Event}
use Rattle.events.specs.declared.event.EventId.{EventId}
use Rattle.events.specs.declared.named.RelName.{RelName}
use Rattle.events.specs.declared.named.SetName.{SetName}
use Rattle.events.specs.declared.named.RelName.TheVariants.{Rf}
use Rattle.events.specs.declared.named.Basis.TheVariants.{Runs}
use Rattle.events.specs.Bases.{basis_of}
use Rattle.events.specs.Executions.{GraphValue, ThreadRun}
use Rattle.events.specs.Named.{event_names, event_count, read_names, NamedSet, NamedRel}
use Rattle.events.specs.Rows.{AreFirsts}
use Rattle.events.specs.Structures.{Structure, Sourced, unvalued, unvalued_run, nought, structured, structure_of, sourced_of, bare, plain}
use Rattle.events.proofs.Bases.{same_sets, same_on_runs, same_on_sources}
use Rattle.events.proofs.Shapes.{names_same, count_same, reads_same, threads_same, rest_same}

pub moved_names : (g h : GraphValue) (es : List EventId) → structure_of g ≡ structure_of h → es ≡ event_names g → es ≡ event_names h
moved_names g h es e k = k ∙ names_same g h e

pub moved_reads : (g h : GraphValue) (es : List EventId) → structure_of g ≡ structure_of h → es ≡ read_names g → es ≡ read_names h
moved_reads g h es e k = k ∙ reads_same g h e

pub moved_firsts : (g h : GraphValue) (firsts : List ℕ) → structure_of g ≡ structure_of h → AreFirsts g firsts → AreFirsts h firsts
moved_firsts g h firsts e f = record {
  threads = f.threads ∙ threads_same g h e;
  first = λ k l. omega (arith, f.first k (omega (arith, l, threads_same g h e)), rest_same g h e k, count_same g h e);
}

pub moved_few : (g h : GraphValue) → structure_of g ≡ structure_of h → event_count g ≤ 64 → event_count h ≤ 64
moved_few g h e f = omega (arith, f, count_same g h e)

-- a relation that is exactly one is exactly each other that relates the same events
exactly_as : (m n : ℕ) (P Q : ℕ → ℕ → Type 0) (r : Relation) → m ≡ n → ((i j : ℕ) → P i j → Q i j) → ((i j : ℕ) → Q i j → P i j) → IsExactly m P r → IsExactly n Q r
exactly_as m n P Q r e a b x =
    record { count = x.count ∙ e; only = λ i j k. a i j (x.only i j k); all = λ i j l k y. x.all i j (omega (arith, l, e)) (omega (arith, k, e)) (b i j y); canonical = x.canonical }

pub moved : (g h : GraphValue) (name : RelName) (r : Relation) → basis_of name ≡ Runs → structure_of g ≡ structure_of h → IsExactly (event_count g) (NamedRel g name) r → IsExactly (event_count h) (NamedRel h name) r
moved g h name r b e x = exactly_as _ _ _ _ r (count_same g h e) (same_on_runs g h e name b) (same_on_runs h g (sym e) name b) x

pub moved_set : (g h : GraphValue) (name : SetName) (s : EventSet) → structure_of g ≡ structure_of h → IsExactlySet (event_count g) (NamedSet g name) s → IsExactlySet (event_count h) (NamedSet h name) s
moved_set g h name s e x = record {
  count = x.count ∙ count_same g h e;
  only = λ i m. same_sets g h e name i (x.only i m);
  all = λ i l y. x.all i (omega (arith, l, count_same g h e)) (same_sets h g (sym e) name i y);
  canonical = x.canonical;
}

pub moved_rf : (g h : GraphValue) (r : Relation) → sourced_of g ≡ sourced_of h → IsExactly (event_count g) (NamedRel g Rf) r → IsExactly (event_count h) (NamedRel h Rf) r
moved_rf g h r e x = exactly_as _ _ _ _ r (count_same g h (ap (λ (s : Sourced). s.structure) e)) (same_on_sources g h e Rf refl) (same_on_sources h g (sym e) Rf refl) x

pub moved_turned : (g h : GraphValue) (r : Relation) → sourced_of g ≡ sourced_of h → IsExactly (event_count g) (λ i j. NamedRel g Rf j i) r → IsExactly (event_count h) (λ i j. NamedRel h Rf j i) r
moved_turned g h r e x =
    exactly_as _ _ _ _ r (count_same g h (ap (λ (s : Sourced). s.structure) e)) (λ i j. same_on_sources g h e Rf refl j i) (λ i j. same_on_sources h g (sym e) Rf refl j i) x

-- A STRUCTURE AS AN EXECUTION HAS THAT STRUCTURE

again_events : (es : List Event) → map unvalued (map unvalued es) ≡ map unvalued es
again_events [] = refl
again_events (e ∷ es) = ap (λ ds. unvalued e ∷ ds) (again_events es)

again_runs : (runs : List ThreadRun) → map unvalued_run (map unvalued_run runs) ≡ map unvalued_run runs
again_runs [] = refl
again_runs (run ∷ runs) =
    ap (λ es. (let r : ThreadRun = record { events = es; registers = [] } in r) ∷ map unvalued_run (map unvalued_run runs)) (again_events run.events)
    ∙ ap (λ rs. unvalued_run run ∷ rs) (again_runs runs)

again_init : (init : List ℕ) → map nought (map nought init) ≡ map nought init
again_init [] = refl
again_init (v ∷ init) = ap (λ vs. 0 ∷ vs) (again_init init)

pub again : (init : List ℕ) (runs : List ThreadRun) → structure_of (bare (structured init runs)) ≡ structured init runs
again init runs =
    let P : List ℕ → Type 0 = λ vs. structure_of (bare (structured init runs)) ≡ record { init = vs; runs = map unvalued_run runs } in
    let Q : List ThreadRun → Type 0 = λ rs. structure_of (bare (structured init runs)) ≡ record { init = map nought (map nought init); runs = rs } in
    subst P (again_init init) (subst Q (again_runs runs) refl)

pub again_sourced : (g : GraphValue) → sourced_of (plain (sourced_of g)) ≡ sourced_of g
again_sourced g = ap (λ s. (let x : Sourced = record { structure = s; rf = g.rf } in x)) (again g.init g.runs)

pub like_plain : (s : Sourced) (g : GraphValue) → s ≡ sourced_of g → sourced_of (plain s) ≡ sourced_of g
like_plain s g e = ap (λ x. sourced_of (plain x)) e ∙ again_sourced g

-- WHICH STRUCTURE AN EXECUTION HAS

pub same_sourced : (g : GraphValue) (structure : Structure) (rf : List EventId) → structure ≡ structure_of g → rf ≡ g.rf → sourced_of g ≡ record { structure = structure; rf = rf }
same_sourced g structure rf p q =
    let P : Structure → Type 0 = λ s. sourced_of g ≡ record { structure = s; rf = rf } in
    let Q : List EventId → Type 0 = λ xs. sourced_of g ≡ record { structure = structure_of g; rf = xs } in
    subst P (sym p) (subst Q (sym q) refl)

pub same_structure : (g : GraphValue) (init : List ℕ) (runs : List ThreadRun) → init ≡ g.init → runs ≡ g.runs → structure_of g ≡ structured init runs
same_structure g init runs p q =
    let P : List ℕ → Type 0 = λ xs. structure_of g ≡ structured xs runs in
    let Q : List ThreadRun → Type 0 = λ xs. structure_of g ≡ structured g.init xs in
    subst P (sym p) (subst Q (sym q) refl)

pub one_structured : (xs ys : List ℕ) (rs ss : List ThreadRun) → map nought xs ≡ map nought ys → map unvalued_run rs ≡ map unvalued_run ss → structured xs rs ≡ structured ys ss
one_structured xs ys rs ss p q =
    let P : List ℕ → Type 0 = λ vs. structured xs rs ≡ record { init = vs; runs = map unvalued_run ss } in
    let Q : List ThreadRun → Type 0 = λ us. structured xs rs ≡ record { init = map nought xs; runs = us } in
    subst P p (subst Q q refl)

-- as many initial values are the same but for the values
pub one_init : (xs ys : List ℕ) → length xs ≡ length ys → map nought xs ≡ map nought ys
one_init [] [] e = refl
one_init [] (y ∷ ys) e = absurd (let z : ⊥ = omega (arith, e) in z)
one_init (x ∷ xs) [] e = absurd (let z : ⊥ = omega (arith, e) in z)
one_init (x ∷ xs) (y ∷ ys) e = ap (λ vs. 0 ∷ vs) (one_init xs ys (omega (arith, e)))

pub as_many : (xs ys : List ℕ) → map nought xs ≡ map nought ys → length xs ≡ length ys
as_many xs ys e = sym (length-map xs nought) ∙ ap (λ (vs : List ℕ). length vs) e ∙ length-map ys nought
