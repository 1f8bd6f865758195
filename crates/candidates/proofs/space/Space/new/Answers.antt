use Rattle.std.proofs.Common.{◌≡◌, ◌∙◌, ap, subst, refl, arith, length, map, [], List, ℕ}
use Rattle.events.specs.Executions.{ThreadRun}
use Rattle.listings.specs.Lists.{sum_of}
use Rattle.candidates.specs.Executions.{initial_values, block}
use Rattle.candidates.specs.Candidates.{Choices, choices, choices_of, size_of}
use Rattle.candidates.specs.Groups.{tally_of, HasRoom}
use Rattle.candidates.specs.Parts.{AreAllWithin}
use Rattle.candidates.proofs.Grouping.{tallies_of}
use Rattle.candidates.proofs.Spaces.{room_all, counted_of, too_many_in_all, size_within}
use Rattle.candidates.proofs.space.Space.new.Goals as goal

pub count_all-requires : goal.count_all-requires
count_all-requires c =
    let n = c.len-locations.result in
    let groups = c.deref-2.ensures.value ∙ c.in_ok-groups.ensures ∙ ap (map (tallies_of n)) c.deref.ensures.value in
    record { room = room_all n c.in_ok-threads.threads.items (tally_of n []) c.deref-2.result.now c.in_ok-threads.ensures.short refl groups }

pub returns-in_default-clause-fault : goal.returns-in_default-clause-fault
returns-in_default-clause-fault c =
    let t = c.args.test.now in
    let lists = c.in_ok-threads.threads.items in
    let n = c.len-locations.result in
    let l : n ≡ length c.in_ok-init.init.items = omega (arith, c.len-locations.ensures) in
    let groups = c.deref-2.ensures.value ∙ c.in_ok-groups.ensures ∙ ap (map (tallies_of n)) c.deref.ensures.value in
    let k = counted_of t c.in_ok-init.init.items n lists (tally_of n []) c.deref-2.result.now l c.in_ok-init.ensures c.in_ok-threads.ensures.within refl groups in
    too_many_in_all t lists n c.in_ok-threads.ensures.few c.in_ok-threads.ensures.lists k.0 (omega (arith, k.2, (rw c.in_default.is at c.in_ok-size.ensures)))

pub invariant_of-result : goal.invariant_of-result
invariant_of-result c =
    let lists = c.in_ok-threads.threads.items in
    let n = c.len-locations.result in
    let l : n ≡ length c.in_ok-init.init.items = omega (arith, c.len-locations.ensures) in
    let own = c.in_ok-groups.ensures ∙ ap (map (tallies_of n)) c.deref.ensures.value in
    let k = counted_of c.args.test.now c.in_ok-init.init.items n lists (tally_of n []) c.deref-2.result.now l c.in_ok-init.ensures c.in_ok-threads.ensures.within refl (c.deref-2.ensures.value ∙ own) in
    let q = rw c.in-Some.is at c.in_ok-size.ensures in
    let W : ℕ → Type 0 = λ m. AreAllWithin m (choices lists) in
    let G : ℕ → Type 0 = λ m. c.in_ok-groups.groups.items ≡ map (tallies_of m) lists in
    let R : ℕ → Type 0 = λ m. HasRoom (tally_of m []) c.in_ok-groups.groups.items in
    record {
      size = q.0 ∙ k.2 ∙ ap (λ m. sum_of (block m) (choices lists)) l;
      most = omega (arith, q.0, q.1);
      within = subst W l k.1;
      tallied = subst G l own;
      room = subst R l (room_all n lists (tally_of n []) c.in_ok-groups.groups.items c.in_ok-threads.ensures.short refl own);
      needs = rw (c.deref-3.ensures.value, c.deref-4.ensures.value) at c.in_ok-needs.ensures;
    }

pub returns-clause-size : goal.returns-clause-size
returns-clause-size c =
    let t = c.args.test.now in
    let lists = c.in_ok-threads.threads.items in
    let n = c.len-locations.result in
    let l : n ≡ length c.in_ok-init.init.items = omega (arith, c.len-locations.ensures) in
    let groups = c.deref-2.ensures.value ∙ c.in_ok-groups.ensures ∙ ap (map (tallies_of n)) c.deref.ensures.value in
    let k = counted_of t c.in_ok-init.init.items n lists (tally_of n []) c.deref-2.result.now l c.in_ok-init.ensures c.in_ok-threads.ensures.within refl groups in
    let s : Choices = record { init = c.in_ok-init.init.items; threads = lists } in
    let e : s ≡ choices_of t =
    ap (λ (vs : List ℕ). let u : Choices = record { init = vs; threads = lists } in u) c.in_ok-init.ensures
    ∙ ap (λ (ls : List (List ThreadRun)). let u : Choices = record { init = initial_values t; threads = ls } in u) c.in_ok-threads.ensures.lists in
    let q = rw c.in-Some.is at c.in_ok-size.ensures in
    let is : c.in-Some.size ≡ size_of s = q.0 ∙ k.2 ∙ ap (λ m. sum_of (block m) (choices lists)) l in
    size_within t s c.in-Some.size e is (omega (arith, q.0, q.1))
