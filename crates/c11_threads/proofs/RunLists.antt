-- The runs of a thread are listed.
use Rattle.std.proofs.Common.{◌≡◌, ℕ, ◌≤◌, List, [], ◌∷◌, ◌++◌, length, map, refl, sym, ◌∙◌, ap, subst, inl, inr, arith, append_assoc, append-nil, Option, None, Some, Bool, true, false, if◌then◌else◌, length-append}
use Rattle.std.specs.List.{flat_map, list_any}
use Rattle.std.proofs.Common.{filter, ◌==◌}
use Rattle.relations.specs.Events.{EventSet}
use Rattle.events.specs.declared.event.Access.{Access}
use Rattle.events.specs.declared.event.Access.TheVariants.{Read, Write, ExRead, ExWrite}
use Rattle.events.specs.declared.event.Event.{Event}
use Rattle.events.specs.declared.event.Order.{Order}
use Rattle.events.specs.declared.event.Order.TheVariants.{Na}
use Rattle.events.specs.Executions.{ThreadRun, no_places}
use Rattle.listings.specs.Lists.{IsIn, NoRepeats, Lists}
use Rattle.listings.proofs.Listings.{in_map, map_in, once_map, in_flat_map, flat_map_in, once_flat_map_of}
use Rattle.litmus_tree.specs.declared.tree.Computation.{Computation}
use Rattle.litmus_tree.specs.Tree.{Word, Action, load, store, exchange, modify, fence, computed_by, Right, computed, plain_read, value_of, Declared, Step, empty, block, declare, assign, plain_write, perform, if_only, if_else, Steps, no_steps, in_turn, Litmus}
use Rattle.litmus_value.specs.Values.{values_of, InDom}
use Rattle.litmus_value.proofs.Distinct.{any_in, in_any}
use Rattle.litmus_value.proofs.Sums.{lists_values}
use Rattle.c11_threads.proofs.Filtered.{lists_filter, all_pass}
use Rattle.c11_threads.specs.declared.content.Content.{Content}
use Rattle.c11_threads.specs.Contents.{place_of, nothing, modified}
use Rattle.c11_threads.specs.Runs.{Progress, after, next_read, Site, thread_of, given_by, inside, reads_from, writes_into, fences, CanModify, Calls, Assigns, Declares, DeclaresAll, Branches, Performs, PerformsAll, body, start, run_of, IsRun}
use Rattle.c11_threads.specs.Unrolled.{setting_of, giving, call_runs, right_runs, optional_runs, declare_runs, declares_runs, under, holds, step_runs, steps_runs, ends_of, runs_of}

append_cancel : {X : Type 0} (xs ys zs : List X) → xs ++ ys ≡ xs ++ zs → ys ≡ zs
append_cancel [] ys zs e = e
append_cancel {X} (x ∷ xs) ys zs e =
    let tail : List X → List X = λ l. elim l [ [] ↦ [] | y ∷ rest ↦ rest ] in
    append_cancel xs ys zs (ap tail e)

-- Where a way from p can lead, listed: each way adds events to those of p, and is told from the others by its events,
-- whatever comes after them.
pub record IsListed (p : Progress) (P : Progress → Type 0) (ends : List Progress) : Type 0 where
  pub lists : Lists P ends
  pub grows : (q : Progress) → IsIn q ends → (more : List Event) × (q.events ≡ p.events ++ more)
  pub told : (a b : Progress) (x y : List Event) → IsIn a ends → IsIn b ends → a.events ++ x ≡ b.events ++ y → a ≡ b

reworded : (p : Progress) (P Q : Progress → Type 0) (ends : List Progress) → ((q : Progress) → P q → Q q) → ((q : Progress) → Q q → P q) → IsListed p P ends → IsListed p Q ends
reworded p P Q ends f g h = record {
  lists = record { once = h.lists.once; only = λ q i. f q (h.lists.only q i); all = λ q m. h.lists.all q (g q m) };
  grows = h.grows;
  told = h.told;
}

-- One way alone.
alone : (p q : Progress) (P : Progress → Type 0) (more : List Event) → q.events ≡ p.events ++ more → P q → ((r : Progress) → P r → r ≡ q) → IsListed p P (q ∷ [])
alone p q P more e does only = record {
  lists = record {
    once = (λ h. h, tt);
    only = λ r h. elim h [ inl f ↦ subst P (sym f) does | inr n ↦ absurd n ];
    all = λ r m. inl (only r m);
  };
  grows = λ r h. elim h [ inl f ↦ (more, ap (λ (u : Progress). u.events) f ∙ e) | inr n ↦ absurd n ];
  told = λ a b x y h m f. elim h [ inl g ↦ elim m [ inl i ↦ g ∙ sym i | inr n ↦ absurd n ] | inr n ↦ absurd n ];
}

still : (p : Progress) → p.events ≡ p.events ++ []
still p = sym (append-nil p.events)

stays : (p : Progress) → IsListed p (λ q. q ≡ p) (p ∷ [])
stays p = alone p p (λ q. q ≡ p) [] (still p) refl (λ r h. h)

pub some_flat_map : (g : Progress → List Progress) (ends : List Progress) → ((m : Progress) → 1 ≤ length (g m)) → length ends ≤ length (flat_map g ends)
some_flat_map g [] some = omega arith
some_flat_map g (m ∷ ends) some = simp length-append (omega (arith, some m, some_flat_map g ends some))

-- One way, and then another from where it led.
followed : (p : Progress) (P : Progress → Type 0) (Q : Progress → Progress → Type 0) (ends : List Progress) (g : Progress → List Progress) → IsListed p P ends → ((m : Progress) → IsListed m (Q m) (g m)) → IsListed p (λ q. (m : Progress) × P m × Q m q) (flat_map g ends)
followed p P Q ends g first next = record {
  lists = record {
    once = once_flat_map_of g ends (λ m h. (next m).lists.once)
        (λ a b x ha hb xa xb.
        let u = (next a).grows x xa in
        let v = (next b).grows x xb in
        first.told a b u.0 v.0 ha hb (sym u.1 ∙ v.1))
        first.lists.once;
    only = λ q h. (let m = in_flat_map g ends q h in (m.0, first.lists.only m.0 m.1, (next m.0).lists.only q m.2));
    all = λ q r. flat_map_in g ends r.0 q (first.lists.all r.0 r.1) ((next r.0).lists.all q r.2);
  };
  grows = λ q h. (let m = in_flat_map g ends q h in
      let u = first.grows m.0 m.1 in
      let v = (next m.0).grows q m.2 in
      (u.0 ++ v.0, v.1 ∙ ap (λ (es : List Event). es ++ v.0) u.1 ∙ append_assoc p.events u.0 v.0));
  told = λ a b x y h k e. (let m = in_flat_map g ends a h in
      let n = in_flat_map g ends b k in
      let u = (next m.0).grows a m.2 in
      let v = (next n.0).grows b n.2 in
      let left : a.events ++ x ≡ m.0.events ++ (u.0 ++ x) = ap (λ (es : List Event). es ++ x) u.1 ∙ append_assoc m.0.events u.0 x in
      let right : b.events ++ y ≡ n.0.events ++ (v.0 ++ y) = ap (λ (es : List Event). es ++ y) v.1 ∙ append_assoc n.0.events v.0 y in
      let same : m.0 ≡ n.0 = first.told m.0 n.0 (u.0 ++ x) (v.0 ++ y) m.1 n.1 (sym left ∙ e ∙ right) in
      let F : Progress → Type 0 = λ r. IsIn b (g r) in
      (next m.0).told a b x y m.2 (subst F (sym same) n.2) e);
}

branched : (p : Progress) (b : Bool) (P Q : Progress → Type 0) (xs ys : List Progress) → IsListed p P xs → IsListed p Q ys → IsListed p (λ q. Branches b (P q) (Q q)) (if b then xs else ys)
branched p true P Q xs ys h k = h
branched p false P Q xs ys h k = k

-- Events after those of p, and a value that is given to a register or to none.
abbrev pub Making : Progress → Content → List Event → Option ℕ → Progress → Type 0
Making p w0 events r q = (w : Content) × (m : Progress) × ((w ≡ w0) × (m ≡ after p events)) × (q ≡ giving r w m)

made : (p : Progress) (w0 : Content) (events : List Event) (r : Option ℕ) → IsListed p (Making p w0 events r) (giving r w0 (after p events) ∷ [])
made p w0 events r =
    alone p (giving r w0 (after p events)) (Making p w0 events r) events refl (w0, after p events, (refl, refl), refl)
    (λ q h. h.3 ∙ ap (λ (w : Content). giving r w h.1) h.2.0 ∙ ap (λ (m : Progress). giving r w0 m) h.2.1)

-- A read of a value with P, with the events that come with it, and its value given to a register or to none.
abbrev pub Reading : (ℕ → Type 0) → Progress → (ℕ → List Event) → Option ℕ → Progress → Type 0
Reading P p events r q = (w : Content) × (m : Progress) × ((v : ℕ) × P v × (w ≡ next_read p v) × (m ≡ after p (events v))) × (q ≡ giving r w m)

once_map_of : {A X : Type 0} (f : A → X) (as' : List A) → ((a b : A) → IsIn a as' → IsIn b as' → f a ≡ f b → a ≡ b) → NoRepeats as' → NoRepeats (map f as')
once_map_of f [] same o = tt
once_map_of {A} f (a ∷ rest) same o = (
  λ h. let m = in_map f rest (f a) h in
      let F : A → Type 0 = λ b. IsIn b rest in
      o.0 (subst F (same m.0 a (inr m.1) (inl refl) m.2) m.1),
  once_map_of f rest (λ b c h k. same b c (inr h) (inr k)) o.1,
)

read_listed : (P : ℕ → Type 0) (vs : List ℕ) → Lists P vs → (p : Progress) (events : ℕ → List Event) (r : Option ℕ) → ((v w : ℕ) (x y : List Event) → events v ++ x ≡ events w ++ y → v ≡ w) →
    IsListed p (Reading P p events r) (map (λ v. giving r (next_read p v) (after p (events v))) vs)
read_listed P vs dom p events r apart =
    let make : ℕ → Progress = λ v. giving r (next_read p v) (after p (events v)) in
    let R : Progress → Type 0 = Reading P p events r in
    let same : (v w : ℕ) (x y : List Event) → (make v).events ++ x ≡ (make w).events ++ y → v ≡ w = λ v w x y e.
    apart v w x y (append_cancel p.events (events v ++ x) (events w ++ y) (sym (append_assoc p.events (events v) x) ∙ e ∙ append_assoc p.events (events w) y)) in
    record {
      lists = record {
        once = once_map make vs (λ v w e. same v w [] [] (ap (λ (q : Progress). q.events ++ []) e)) dom.once;
        only = λ q h. (let m = in_map make vs q h in
            subst R m.2 (next_read p m.0, after p (events m.0), (m.0, dom.only m.0 m.1, refl, refl), refl));
        all = λ q h. (let F : Progress → Type 0 = λ u. IsIn u (map make vs) in
            let v = h.2.0 in
            let e : q ≡ make v = h.3 ∙ ap (λ (w : Content). giving r w h.1) h.2.2 ∙ ap (λ (m : Progress). giving r (next_read p v) m) h.2.3 in
            subst F (sym e) (map_in make vs v (dom.all v h.2.1)));
      };
      grows = λ q h. (let m = in_map make vs q h in (events m.0, ap (λ (u : Progress). u.events) (sym m.2)));
      told = λ a b x y h k e. (let m = in_map make vs a h in
          let n = in_map make vs b k in
          let f : (make m.0).events ++ x ≡ (make n.0).events ++ y = ap (λ (u : Progress). u.events ++ x) m.2 ∙ e ∙ ap (λ (u : Progress). u.events ++ y) (sym n.2) in
          sym m.2 ∙ ap make (same m.0 n.0 x y f) ∙ n.2);
    }

-- A read of any value of the test.
any_listed : (t : Litmus) (p : Progress) (events : ℕ → List Event) (r : Option ℕ) → ((v w : ℕ) (x y : List Event) → events v ++ x ≡ events w ++ y → v ≡ w) →
    IsListed p (Reading (InDom t) p events r) (map (λ v. giving r (next_read p v) (after p (events v))) (filter (λ v. true) (values_of t)))
any_listed t p events r apart =
    let make : ℕ → Progress = λ v. giving r (next_read p v) (after p (events v)) in
    let F : List ℕ → Type 0 = λ vs. IsListed p (Reading (InDom t) p events r) (map make vs) in
    subst F (sym (all_pass (λ v. true) (values_of t) (λ v. refl))) (read_listed (InDom t) (values_of t) (lists_values t.initial t.threads) p events r apart)

-- The values that a modification can read.
modifiable : (t : Litmus) (f : Computation) (k : ℕ) → Lists (CanModify t f k) (filter (λ v. list_any (λ u. u == computed_by f v k) (values_of t)) (values_of t))
modifiable t f k =
    let vs = values_of t in
    let dom = lists_values t.initial t.threads in
    let l = lists_filter (InDom t) (λ v. list_any (λ u. u == computed_by f v k) vs) vs dom in
    record {
      once = l.once;
      only = λ v h. (let m = l.only v h in (m.0, dom.only (computed_by f v k) (any_in vs (computed_by f v k) m.1)));
      all = λ v h. l.all v (h.0, in_any vs (computed_by f v k) (dom.all (computed_by f v k) h.1));
    }

first_value : List Event → ℕ
first_value [] = 0
first_value (e ∷ events) = e.value

abbrev pub site : Litmus → ℕ → EventSet → Site
site t k c = record { test = t; thread = k; ctrl = c }

read_apart : (s : Site) (a : Access) (x : Word) (o : Order) (v w : ℕ) (xs ys : List Event) → reads_from s a x o v ∷ xs ≡ reads_from s a x o w ∷ ys → v ≡ w
unfolding first_value
read_apart s a x o v w xs ys e = ap first_value e

-- A call whose value is given to a register or to none.
abbrev pub Giving : Site → Action → Option ℕ → Progress → Progress → Type 0
Giving s a r p q = (w : Content) × (m : Progress) × Calls s a p w m × (q ≡ giving r w m)

call_listed : (t : Litmus) (k : ℕ) (c : EventSet) (a : Action) (r : Option ℕ) (p : Progress) → IsListed p (Giving (site t k c) a r p) (call_runs (setting_of t k c) a r p)
call_listed t k c (load x o) r p =
    let s = site t k c in
    any_listed t p (λ v. reads_from s Read x o v ∷ []) r (λ v w xs ys e. read_apart s Read x o v w xs ys e)
call_listed t k c (store x e o) r p =
    let s = site t k c in
    made p nothing (writes_into s Write x o (given_by s p e) ∷ []) r
call_listed t k c (exchange x e o) r p =
    let s = site t k c in
    let write = writes_into s ExWrite x o (given_by s p e) in
    any_listed t p (λ v. reads_from s ExRead x o v ∷ write ∷ []) r (λ v w xs ys e. read_apart s ExRead x o v w (write ∷ xs) (write ∷ ys) e)
call_listed t k c (modify x f n o) r p =
    let s = site t k c in
    let write : ℕ → Event = λ v. writes_into s ExWrite x o (modified f n (next_read p v)) in
    read_listed (CanModify t f n) (filter (λ v. list_any (λ u. u == computed_by f v n) (values_of t)) (values_of t)) (modifiable t f n) p (λ v. reads_from s ExRead x o v ∷ write v ∷ []) r
    (λ v w xs ys e. read_apart s ExRead x o v w (write v ∷ xs) (write w ∷ ys) e)
call_listed t k c (fence o) r p = made p nothing (fences (site t k c) o ∷ []) r

right_listed : (t : Litmus) (k : ℕ) (c : EventSet) (name : Word) (right : Right) (p : Progress) → IsListed p (Assigns (site t k c) name right p) (right_runs (setting_of t k c) right (place_of name (thread_of t k).registers) p)
right_listed t k c name (computed e) p =
    let s = site t k c in
    let r = place_of name (thread_of t k).registers in
    let w0 = given_by s p e in
    alone p (giving (Some r) w0 p) (Assigns s name (computed e) p) [] (still p) (w0, p, (refl, refl), refl)
    (λ q h. h.3 ∙ ap (λ (w : Content). giving (Some r) w h.1) h.2.0 ∙ ap (λ (m : Progress). giving (Some r) w0 m) h.2.1)
right_listed t k c name (plain_read x) p =
    let s = site t k c in
    any_listed t p (λ v. reads_from s Read x Na v ∷ []) (Some (place_of name (thread_of t k).registers)) (λ v w xs ys e. read_apart s Read x Na v w xs ys e)
right_listed t k c name (value_of a) p = call_listed t k c a (Some (place_of name (thread_of t k).registers)) p

declare_listed : (t : Litmus) (k : ℕ) (c : EventSet) (name : Word) (right : Option Right) (p : Progress) → IsListed p (Declares (site t k c) name right p) (optional_runs (setting_of t k c) right (place_of name (thread_of t k).registers) p)
declare_listed t k c name None p =
    let q = giving (Some (place_of name (thread_of t k).registers)) nothing p in
    alone p q (Declares (site t k c) name None p) [] (still p) refl (λ r h. h)
declare_listed t k c name (Some right) p = right_listed t k c name right p

declares_listed : (t : Litmus) (k : ℕ) (c : EventSet) (ds : List Declared) (p : Progress) → IsListed p (DeclaresAll (site t k c) ds p) (declares_runs (setting_of t k c) ds p)
declares_listed t k c [] p = stays p
declares_listed t k c (d ∷ ds) p =
    followed p (Declares (site t k c) d.register d.value p) (λ m q. DeclaresAll (site t k c) ds m q) (declare_runs (setting_of t k c) d p) (declares_runs (setting_of t k c) ds)
    (declare_listed t k c d.register d.value p) (λ m. declares_listed t k c ds m)

mutual
  pub step_listed : (a : Step) (t : Litmus) (k : ℕ) (c : EventSet) (p : Progress) → IsListed p (λ q. Performs a (site t k c) p q) (step_runs a (setting_of t k c) p)
  step_listed empty t k c p = stays p
  step_listed (block steps) t k c p = steps_listed steps t k c p
  step_listed (declare ds) t k c p = declares_listed t k c ds p
  step_listed (assign r right) t k c p = right_listed t k c r right p
  step_listed (plain_write x e) t k c p =
      let s = site t k c in
      let event = writes_into s Write x Na (given_by s p e) in
      let q = after p (event ∷ []) in
      alone p q (λ r. r ≡ q) (event ∷ []) refl refl (λ r h. h)
  step_listed (perform a) t k c p =
      reworded p (Giving (site t k c) a None p) (λ q. (w : Content) × Calls (site t k c) a p w q) (call_runs (setting_of t k c) a None p)
      (λ q h. (let F : Progress → Type 0 = λ u. Calls (site t k c) a p h.0 u in (h.0, subst F (sym h.3) h.2)))
      (λ q h. (h.0, q, h.1, refl))
      (call_listed t k c a None p)
  step_listed (if_only e a) t k c p =
      let s = setting_of t k c in
      branched p (holds s e p) (λ q. Performs a (inside (site t k c) p e) p q) (λ q. q ≡ p) (step_runs a (under s e p) p) (p ∷ [])
      (step_listed a t k (under s e p).ctrl p) (stays p)
  step_listed (if_else e a b) t k c p =
      let s = setting_of t k c in
      branched p (holds s e p) (λ q. Performs a (inside (site t k c) p e) p q) (λ q. Performs b (inside (site t k c) p e) p q) (step_runs a (under s e p) p) (step_runs b (under s e p) p)
      (step_listed a t k (under s e p).ctrl p) (step_listed b t k (under s e p).ctrl p)

  pub steps_listed : (steps : Steps) (t : Litmus) (k : ℕ) (c : EventSet) (p : Progress) → IsListed p (λ q. PerformsAll steps (site t k c) p q) (steps_runs steps (setting_of t k c) p)
  steps_listed no_steps t k c p = stays p
  steps_listed (in_turn a rest) t k c p =
      followed p (λ m. Performs a (site t k c) p m) (λ m q. PerformsAll rest (site t k c) m q) (step_runs a (setting_of t k c) p) (steps_runs rest (setting_of t k c))
      (step_listed a t k c p) (λ m. steps_listed rest t k c m)

ends_listed : (t : Litmus) (k : ℕ) → IsListed (start t k) (λ q. PerformsAll (thread_of t k).steps (body t k) (start t k) q) (ends_of t k)
ends_listed t k = steps_listed (thread_of t k).steps t k no_places (start t k)

pub lists_runs_of : (t : Litmus) (k : ℕ) → Lists (IsRun t k) (runs_of t k)
lists_runs_of t k =
    let ends = ends_listed t k in
    let P : ThreadRun → Type 0 = IsRun t k in
    let F : ThreadRun → Type 0 = λ run. IsIn run (runs_of t k) in
    record {
      once = once_map_of run_of (ends_of t k) (λ a b h m e. ends.told a b [] [] h m (ap (λ (run : ThreadRun). run.events ++ []) e)) ends.lists.once;
      only = λ run h. (let m = in_map run_of (ends_of t k) run h in subst P m.2 (m.0, ends.lists.only m.0 m.1, refl));
      all = λ run r. subst F (sym r.2) (map_in run_of (ends_of t k) r.0 (ends.lists.all r.0 r.1));
    }
