-- What events of a run depend on: reads before them.
use Rattle.std.proofs.Common.{◌≡◌, ℕ, zero, suc, ◌<◌, ◌⊎◌, List, [], ◌∷◌, ◌++◌, length, get_or, refl, sym, ◌∙◌, ap, subst, inl, inr, arith, append_assoc, Bool, true, false, Option, None, Some}
use Rattle.std.specs.List.{All}
use Rattle.std.proofs.lemmas.List.Elements.{All-head, All-tail, All-set, All-map}
use Rattle.relations.specs.Events.{EventSet, Has}
use Rattle.events.specs.declared.event.Access.TheVariants.{Read, Write, ExRead, ExWrite}
use Rattle.events.specs.declared.event.Event.{Event}
use Rattle.events.specs.declared.event.Order.TheVariants.{Na}
use Rattle.events.specs.Executions.{ThreadRun, no_places, is_read}
use Rattle.listings.specs.Lists.{StandsAt}
use Rattle.litmus_tree.specs.Tree.{Word, Term, number, held, denied, equal, unequal, both, either, Action, load, store, exchange, modify, fence, Right, computed, plain_read, value_of, Declared, Step, empty, block, declare, assign, plain_write, perform, if_only, if_else, Steps, no_steps, in_turn, Litmus}
use Rattle.c11_threads.specs.declared.content.Content.{Content}
use Rattle.c11_threads.specs.Contents.{place_of, joined, nothing, is_true, reads_in, modified}
use Rattle.c11_threads.specs.Runs.{Progress, after, holding, next_read, Site, thread_of, names, given_by, inside, reads_from, writes_into, fences, Calls, Gives, Assigns, Declares, DeclaresAll, Branches, Performs, PerformsAll, body, initial_content, start}
use Rattle.c11_threads.specs.Bounds.{IsReadAt, Depends}
use Rattle.c11_threads.proofs.Sets.{none_in, in_just, in_joined}
use Rattle.c11_threads.proofs.RunLists.{site, step_listed}

-- Each place of the set is that of a read.
abbrev pub OnReads : List Event → EventSet → Type 0
OnReads events s = (i : ℕ) → Has s i → IsReadAt events i

-- Each event depends on reads before it.
abbrev pub AreOnReads : List Event → Type 0
AreOnReads events = (p : ℕ) (e : Event) → StandsAt events p e → (i : ℕ) → Has e.data_from i ⊎ Has e.ctrl_from i → (i < p) × IsReadAt events i

stands_on : (xs ys : List Event) (i : ℕ) (e : Event) → StandsAt xs i e → StandsAt (xs ++ ys) i e
stands_on [] ys i e s = absurd s
stands_on (x ∷ xs) ys zero e s = s
stands_on (x ∷ xs) ys (suc i) e s = stands_on xs ys i e s

stands_below : (xs : List Event) (i : ℕ) (e : Event) → StandsAt xs i e → i < length xs
stands_below [] i e s = absurd s
stands_below (x ∷ xs) zero e s = omega arith
stands_below (x ∷ xs) (suc i) e s = omega (arith, stands_below xs i e s)

-- What stands in xs and then f stands in xs, or is f.
stands_last : (xs : List Event) (f : Event) (i : ℕ) (e : Event) → StandsAt (xs ++ f ∷ []) i e → StandsAt xs i e ⊎ ((i ≡ length xs) × (e ≡ f))
stands_last [] f zero e s = inr (refl, s)
stands_last [] f (suc i) e s = absurd s
stands_last (x ∷ xs) f zero e s = inl s
stands_last (x ∷ xs) f (suc i) e s = elim (stands_last xs f i e s) [ inl a ↦ inl a | inr b ↦ inr (ap suc b.0, b.1) ]

last_stands : (xs : List Event) (f : Event) → StandsAt (xs ++ f ∷ []) (length xs) f
last_stands [] f = refl
last_stands (x ∷ xs) f = last_stands xs f

read_on : (xs ys : List Event) (i : ℕ) → IsReadAt xs i → IsReadAt (xs ++ ys) i
read_on xs ys i h = (h.0, stands_on xs ys i h.0 h.1, h.2)

set_on : (xs ys : List Event) (s : EventSet) → OnReads xs s → OnReads (xs ++ ys) s
set_on xs ys s h i m = read_on xs ys i (h i m)

none_on : (xs : List Event) → OnReads xs no_places
none_on xs i h = absurd (none_in i h)

joined_on : (xs : List Event) (s t : EventSet) → OnReads xs s → OnReads xs t → OnReads xs (joined s t)
joined_on xs s t h k i m = elim (in_joined s t i m) [ inl a ↦ h i a | inr b ↦ k i b ]

pub record Rests (p : Progress) : Type 0 where
  pub events : AreOnReads p.events
  pub registers : All (λ w. OnReads p.events w.reads) p.registers

-- One event more, whose sets are on reads before it.
one_on : (xs : List Event) (f : Event) → AreOnReads xs → OnReads xs f.data_from → OnReads xs f.ctrl_from → AreOnReads (xs ++ f ∷ [])
one_on xs f h d c p e s i m = elim (stands_last xs f p e s) [
  | inl a ↦ (let r = h p e a i m in (r.0, read_on xs (f ∷ []) i r.1))
  | inr b ↦ (let P : Event → Type 0 = λ g. Has g.data_from i ⊎ Has g.ctrl_from i in
      let r : IsReadAt xs i = elim (subst P b.1 m) [ inl a ↦ d i a | inr a ↦ c i a ] in
      (omega (arith, b.0, stands_below xs i r.0 r.1), read_on xs (f ∷ []) i r))
]

all_on : (xs ys : List Event) (ws : List Content) → All (λ w. OnReads xs w.reads) ws → All (λ w. OnReads (xs ++ ys) w.reads) ws
all_on xs ys ws h k d l = set_on xs ys (get_or ws k d).reads (h k d l)

rests_one : (p : Progress) (f : Event) → Rests p → OnReads p.events f.data_from → OnReads p.events f.ctrl_from → Rests (after p (f ∷ []))
rests_one p f h d c = record { events = one_on p.events f h.events d c; registers = all_on p.events (f ∷ []) p.registers h.registers }

two_are : (p : Progress) (e f : Event) → after (after p (e ∷ [])) (f ∷ []) ≡ after p (e ∷ f ∷ [])
two_are p e f = ap (λ (es : List Event). let q : Progress = record { events = es; registers = p.registers } in q) (append_assoc p.events (e ∷ []) (f ∷ []))

get_on : (xs : List Event) (ws : List Content) (k : ℕ) → All (λ w. OnReads xs w.reads) ws → OnReads xs (get_or ws k nothing).reads
get_on xs [] k h = none_on xs
get_on xs (w ∷ ws) zero h = All-head (λ w. OnReads xs w.reads) w ws h
get_on xs (w ∷ ws) (suc k) h = get_on xs ws k (All-tail (λ w. OnReads xs w.reads) w ws h)

reads_on : (xs : List Event) (names : List Word) (ws : List Content) (e : Term) → All (λ w. OnReads xs w.reads) ws → OnReads xs (reads_in names ws e)
reads_on xs names ws (number n) h = none_on xs
reads_on xs names ws (held r) h = get_on xs ws (place_of r names) h
reads_on xs names ws (denied a) h = reads_on xs names ws a h
reads_on xs names ws (equal a b) h = joined_on xs (reads_in names ws a) (reads_in names ws b) (reads_on xs names ws a h) (reads_on xs names ws b h)
reads_on xs names ws (unequal a b) h = joined_on xs (reads_in names ws a) (reads_in names ws b) (reads_on xs names ws a h) (reads_on xs names ws b h)
reads_on xs names ws (both a b) h = joined_on xs (reads_in names ws a) (reads_in names ws b) (reads_on xs names ws a h) (reads_on xs names ws b h)
reads_on xs names ws (either a b) h = joined_on xs (reads_in names ws a) (reads_in names ws b) (reads_on xs names ws a h) (reads_on xs names ws b h)

given_on : (s : Site) (p : Progress) (e : Term) → Rests p → OnReads p.events (given_by s p e).reads
given_on s p e h = reads_on p.events (names s) p.registers e h.registers

-- The value that a read gives rests on that read.
next_on : (p : Progress) (v : ℕ) (f : Event) → is_read f.access ≡ true → OnReads (p.events ++ f ∷ []) (next_read p v).reads
next_on p v f r i m =
    let P : ℕ → Type 0 = IsReadAt (p.events ++ f ∷ []) in
    subst P (sym (in_just (length p.events) i m)) (f, last_stands p.events f, r)

-- q rests on its reads, and so do a value, and the tests around.
pub record Goes (s : Site) (w : Content) (q : Progress) : Type 0 where
  pub rests : Rests q
  pub value : OnReads q.events w.reads
  pub tests : OnReads q.events s.ctrl

goes_same : (s : Site) (w v : Content) (p q : Progress) → w ≡ v → q ≡ p → Goes s v p → Goes s w q
goes_same s w v p q e f h =
    let P : Progress → Type 0 = Goes s v in
    let Q : Content → Type 0 = λ u. Goes s u q in
    subst Q (sym e) (subst P (sym f) h)

calls_go : (s : Site) (a : Action) (p : Progress) (w : Content) (q : Progress) → Rests p → OnReads p.events s.ctrl → Calls s a p w q → Goes s w q
calls_go s (load x o) p w q h t c =
    let e = reads_from s Read x o c.0 in
    goes_same s w (next_read p c.0) (after p (e ∷ [])) q c.2 c.3 (record {
      rests = rests_one p e h (none_on p.events) t;
      value = next_on p c.0 e refl;
      tests = set_on p.events (e ∷ []) s.ctrl t;
    })
calls_go s (store x e o) p w q h t c =
    let f = writes_into s Write x o (given_by s p e) in
    goes_same s w nothing (after p (f ∷ [])) q c.0 c.1 (record {
      rests = rests_one p f h (given_on s p e h) t;
      value = none_on (p.events ++ f ∷ []);
      tests = set_on p.events (f ∷ []) s.ctrl t;
    })
calls_go s (exchange x e o) p w q h t c =
    let r = reads_from s ExRead x o c.0 in
    let f = writes_into s ExWrite x o (given_by s p e) in
    let m = after p (r ∷ []) in
    let u = set_on p.events (r ∷ []) s.ctrl t in
    goes_same s w (next_read p c.0) (after m (f ∷ [])) q c.2 (c.3 ∙ sym (two_are p r f)) (record {
      rests = rests_one m f (rests_one p r h (none_on p.events) t) (set_on p.events (r ∷ []) (given_by s p e).reads (given_on s p e h)) u;
      value = set_on m.events (f ∷ []) (next_read p c.0).reads (next_on p c.0 r refl);
      tests = set_on m.events (f ∷ []) s.ctrl u;
    })
calls_go s (modify x g k o) p w q h t c =
    let r = reads_from s ExRead x o c.0 in
    let f = writes_into s ExWrite x o (modified g k (next_read p c.0)) in
    let m = after p (r ∷ []) in
    let u = set_on p.events (r ∷ []) s.ctrl t in
    let read = next_on p c.0 r refl in
    goes_same s w (next_read p c.0) (after m (f ∷ [])) q c.2 (c.3 ∙ sym (two_are p r f)) (record {
      rests = rests_one m f (rests_one p r h (none_on p.events) t) read u;
      value = set_on m.events (f ∷ []) (next_read p c.0).reads read;
      tests = set_on m.events (f ∷ []) s.ctrl u;
    })
calls_go s (fence o) p w q h t c =
    let f = fences s o in
    goes_same s w nothing (after p (f ∷ [])) q c.0 c.1 (record {
      rests = rests_one p f h (none_on p.events) t;
      value = none_on (p.events ++ f ∷ []);
      tests = set_on p.events (f ∷ []) s.ctrl t;
    })

gives_go : (s : Site) (r : Right) (p : Progress) (w : Content) (q : Progress) → Rests p → OnReads p.events s.ctrl → Gives s r p w q → Goes s w q
gives_go s (computed e) p w q h t c = goes_same s w (given_by s p e) p q c.0 c.1 (record { rests = h; value = given_on s p e h; tests = t })
gives_go s (plain_read x) p w q h t c =
    let e = reads_from s Read x Na c.0 in
    goes_same s w (next_read p c.0) (after p (e ∷ [])) q c.2 c.3 (record {
      rests = rests_one p e h (none_on p.events) t;
      value = next_on p c.0 e refl;
      tests = set_on p.events (e ∷ []) s.ctrl t;
    })
gives_go s (value_of a) p w q h t c = calls_go s a p w q h t c

-- q rests on its reads, and so do the tests around.
pub record Stays (s : Site) (q : Progress) : Type 0 where
  pub rests : Rests q
  pub tests : OnReads q.events s.ctrl

stays_same : (s : Site) (p q : Progress) → q ≡ p → Stays s p → Stays s q
stays_same s p q is h = let P : Progress → Type 0 = Stays s in subst P (sym is) h

holding_stays : (s : Site) (r : ℕ) (w : Content) (m q : Progress) → Goes s w m → q ≡ holding r w m → Stays s q
holding_stays s r w m q g is =
    stays_same s (holding r w m) q is (record {
      rests = record { events = g.rests.events; registers = All-set (λ (u : Content). OnReads m.events u.reads) m.registers r w g.value g.rests.registers };
      tests = g.tests;
    })

assigns_stay : (s : Site) (r : Word) (right : Right) (p q : Progress) → Stays s p → Assigns s r right p q → Stays s q
assigns_stay s r right p q h c = holding_stays s (place_of r (names s)) c.0 c.1 q (gives_go s right p c.0 c.1 h.rests h.tests c.2) c.3

declares_stay : (s : Site) (r : Word) (right : Option Right) (p q : Progress) → Stays s p → Declares s r right p q → Stays s q
declares_stay s r None p q h c = holding_stays s (place_of r (names s)) nothing p q (record { rests = h.rests; value = none_on p.events; tests = h.tests }) c
declares_stay s r (Some right) p q h c = assigns_stay s r right p q h c

declares_all_stay : (s : Site) (ds : List Declared) (p q : Progress) → Stays s p → DeclaresAll s ds p q → Stays s q
declares_all_stay s [] p q h c = stays_same s p q c h
declares_all_stay s (d ∷ ds) p q h c = declares_all_stay s ds c.0 q (declares_stay s d.register d.value p c.0 h c.1) c.2

either_way : (b : Bool) (P Q R : Type 0) → (P → R) → (Q → R) → Branches b P Q → R
either_way true P Q R f g h = f h
either_way false P Q R f g h = g h

-- The tests around an arm are those around the `if`, and its own.
entered : (s : Site) (p : Progress) (e : Term) → Stays s p → Stays (inside s p e) p
entered s p e h = record { rests = h.rests; tests = joined_on p.events s.ctrl (given_by s p e).reads h.tests (given_on s p e h.rests) }

-- After an arm the tests around the `if` still name reads, since events were only added.
left : (a : Step) (s : Site) (c : EventSet) (p q : Progress) → OnReads p.events s.ctrl → Performs a (site s.test s.thread c) p q → OnReads q.events s.ctrl
left a s c p q t h =
    let l = step_listed a s.test s.thread c p in
    let g = l.grows q (l.lists.all q h) in
    let P : List Event → Type 0 = λ es. OnReads es s.ctrl in
    subst P (sym g.1) (set_on p.events g.0 s.ctrl t)

mutual
  step_stays : (a : Step) (s : Site) (p q : Progress) → Stays s p → Performs a s p q → Stays s q
  step_stays empty s p q h c = stays_same s p q c h
  step_stays (block steps) s p q h c = steps_stay steps s p q h c
  step_stays (declare ds) s p q h c = declares_all_stay s ds p q h c
  step_stays (assign r right) s p q h c = assigns_stay s r right p q h c
  step_stays (plain_write x e) s p q h c =
      let f = writes_into s Write x Na (given_by s p e) in
      stays_same s (after p (f ∷ [])) q c (record {
        rests = rests_one p f h.rests (given_on s p e h.rests) h.tests;
        tests = set_on p.events (f ∷ []) s.ctrl h.tests;
      })
  step_stays (perform a) s p q h c = let g = calls_go s a p c.0 q h.rests h.tests c.1 in record { rests = g.rests; tests = g.tests }
  step_stays (if_only e a) s p q h c =
      either_way (is_true (given_by s p e).value) (Performs a (inside s p e) p q) (q ≡ p) (Stays s q)
      (λ g. record { rests = (step_stays a (inside s p e) p q (entered s p e h) g).rests; tests = left a s (inside s p e).ctrl p q h.tests g })
      (λ g. stays_same s p q g h) c
  step_stays (if_else e a b) s p q h c =
      either_way (is_true (given_by s p e).value) (Performs a (inside s p e) p q) (Performs b (inside s p e) p q) (Stays s q)
      (λ g. record { rests = (step_stays a (inside s p e) p q (entered s p e h) g).rests; tests = left a s (inside s p e).ctrl p q h.tests g })
      (λ g. record { rests = (step_stays b (inside s p e) p q (entered s p e h) g).rests; tests = left b s (inside s p e).ctrl p q h.tests g }) c

  steps_stay : (steps : Steps) (s : Site) (p q : Progress) → Stays s p → PerformsAll steps s p q → Stays s q
  steps_stay no_steps s p q h c = stays_same s p q c h
  steps_stay (in_turn a rest) s p q h c = steps_stay rest s c.0 q (step_stays a s p c.0 h c.1) c.2

start_stays : (t : Litmus) (k : ℕ) → Stays (body t k) (start t k)
start_stays t k = record {
  rests = record {
    events = λ p e s. absurd s;
    registers = All-map (λ (w : Content). OnReads [] w.reads) (initial_content t k) (thread_of t k).registers
        (λ i d l. none_on []);
  };
  tests = none_on [];
}

pub depending : Depends
depending t k run h =
    let e = steps_stay (thread_of t k).steps (body t k) (start t k) h.0 (start_stays t k) h.1 in
    let P : ThreadRun → Type 0 = λ r. AreOnReads r.events in
    subst P (sym h.2) e.rests.events
