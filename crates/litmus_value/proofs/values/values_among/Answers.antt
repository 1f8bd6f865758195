use Rattle.std.proofs.Common.{◌≡◌, ◌≤◌, ℕ, List, map, length, subst, sym, ap, ◌∙◌, arith}
use Rattle.std.specs.Prelude.{All, IfOk, IfErr, OnOk}
use Rattle.std.proofs.lemmas.Result.{err_from_is_err_and, IfOk-weaker}
use Rattle.listings.specs.Lists.{Lists}
use Rattle.litmus_value.specs.Gathering.{gathered, all_noted, IsFull}
use Rattle.litmus_value.specs.Values.{IsValue, literal, numerals_among, with_sums, values_among, Refuses}
use Rattle.litmus_value.proofs.Among.{noted_of, summed, refuses_full, full_noted, full_initial}
use Rattle.litmus_value.proofs.Sums.{lists_values}
use Rattle.litmus_value.proofs.values.values_among.Goals as goal

pub returns-in_err-note_initial-clause-fault : goal.returns-in_err-note_initial-clause-fault
returns-in_err-note_initial-clause-fault c =
    let p = err_from_is_err_and c.from_residual-in_err-note_initial.result c.from_residual-in_err-note_initial.ensures.1 in
    rw (p.1, p.2) (full_initial c.args.initial.now c.args.threads.now _ _ (ap (λ g. all_noted g (map (λ b. literal b.value) c.args.initial.now)) c.in_ok-numbers.ensures.values) c.in_err-note_initial.ensures.fault)

pub returns-in_err-note_threads-clause-fault : goal.returns-in_err-note_threads-clause-fault
returns-in_err-note_threads-clause-fault c =
    let p = err_from_is_err_and c.from_residual-in_err-note_threads.result c.from_residual-in_err-note_threads.ensures.1 in
    rw (p.1, p.2) (full_noted c.args.initial.now c.args.threads.now _ _ (ap (λ g. all_noted g (numerals_among c.args.threads.now)) (c.in_ok-note_initial.ensures.done ∙ ap (λ g. all_noted g (map (λ b. literal b.value) c.args.initial.now)) c.in_ok-numbers.ensures.values)) c.in_err-note_threads.ensures.fault)

pub returns-in_err-insert_all_sums-clause-fault : goal.returns-in_err-insert_all_sums-clause-fault
returns-in_err-insert_all_sums-clause-fault c =
    let p = err_from_is_err_and c.from_residual-in_err-insert_all_sums.result c.from_residual-in_err-insert_all_sums.ensures.1 in
    let noted : gathered c.note_threads.new.self ≡ noted_of c.args.initial.now c.args.threads.now =
    c.in_ok-note_threads.ensures.done ∙ ap (λ g. all_noted g (numerals_among c.args.threads.now)) (c.in_ok-note_initial.ensures.done ∙ ap (λ g. all_noted g (map (λ b. literal b.value) c.args.initial.now)) c.in_ok-numbers.ensures.values) in
    let Q : List ℕ → Type 0 = λ vs. IsFull vs c.in_err-insert_all_sums.field-0.0 in
    rw (p.1, p.2) (refuses_full _ _ (subst Q (ap (with_sums c.note_threads.new.self.values.items) c.deref.ensures.value ∙ summed c.args.initial.now c.args.threads.now _ noted) c.in_err-insert_all_sums.ensures.fault))

-- what is copied is the list of values
copied : (c : goal.After-drop-values-2) → c.deref-2.result.now ≡ values_among c.args.initial.now c.args.threads.now
copied c =
    let noted : gathered c.note_threads.new.self ≡ noted_of c.args.initial.now c.args.threads.now =
    c.in_ok-note_threads.ensures.done ∙ ap (λ g. all_noted g (numerals_among c.args.threads.now)) (c.in_ok-note_initial.ensures.done ∙ ap (λ g. all_noted g (map (λ b. literal b.value) c.args.initial.now)) c.in_ok-numbers.ensures.values) in
    c.deref-2.ensures.value ∙ c.in_ok-insert_all_sums.ensures.done ∙ ap (with_sums c.note_threads.new.self.values.items) c.deref.ensures.value ∙ summed c.args.initial.now c.args.threads.now _ noted

pub returns-clause-value : goal.returns-clause-value
returns-clause-value c = (let P : List ℕ → Type 0 = λ vs. IfOk c.narrowed.result (λ v. v.items ≡ vs) in subst P (copied c) c.narrowed.ensures.value)

pub returns-clause-each : goal.returns-clause-each
returns-clause-each c =
    let L : List ℕ → Type 0 = Lists (IsValue c.args.initial.now c.args.threads.now) in
    IfOk-weaker c.narrowed.result (λ v. v.items ≡ c.deref-2.result.now) (λ v. L v.items) (λ v e. subst L (sym (e ∙ copied c)) (lists_values c.args.initial.now c.args.threads.now)) c.narrowed.ensures.value

pub returns-clause-few : goal.returns-clause-few
returns-clause-few c =
    let few : length (values_among c.args.initial.now c.args.threads.now) ≤ 16 = omega (arith, ap length (copied c), ap length c.deref-2.ensures.value, c.in_ok-insert_all_sums.ensures.within) in
    IfOk-weaker c.narrowed.result (λ v. v.items ≡ c.deref-2.result.now) (λ v. length (values_among c.args.initial.now c.args.threads.now) ≤ 16) (λ v e. few) c.narrowed.ensures.value

pub returns-clause-small : goal.returns-clause-small
returns-clause-small c = (let P : List ℕ → Type 0 = λ vs. OnOk c.narrowed.result (All (λ v. v ≤ 2147483647) vs) in subst P (copied c) c.narrowed.ensures.small)

pub returns-clause-fault : goal.returns-clause-fault
returns-clause-fault c = (let P : List ℕ → Type 0 = λ vs. IfErr c.narrowed.result (Refuses vs) in subst P (copied c) c.narrowed.ensures.fault)
