use Rattle.std.proofs.Common.{◌≡◌, ℕ, List, [], ◌++◌, codes, append_assoc, refl}
use Rattle.std.proofs.KnownBytes.{Appends-nil, Appends-trans}
use Rattle.report.specs.Texts.{line, name_line, count_line, state_lines, answer_line, counts_line, flag_lines, condition_line, observation_line}
use Rattle.report.proofs.Written.{exit, after}
use Rattle.report.proofs.summary.write_lines.Goals as goal

-- nine parts, cut before each
cut_write_name : (a b c d e f g h i : List ℕ) → a ++ b ++ c ++ d ++ e ++ f ++ g ++ h ++ i ≡ a ++ (b ++ (c ++ (d ++ (e ++ (f ++ (g ++ (h ++ (i))))))))
cut_write_name a b c d e f g h i = simp append_assoc

cut_write_count : (a b c d e f g h i : List ℕ) → a ++ b ++ c ++ d ++ e ++ f ++ g ++ h ++ i ≡ (a) ++ (b ++ (c ++ (d ++ (e ++ (f ++ (g ++ (h ++ (i))))))))
cut_write_count a b c d e f g h i = simp append_assoc

cut_write_states : (a b c d e f g h i : List ℕ) → a ++ b ++ c ++ d ++ e ++ f ++ g ++ h ++ i ≡ (a ++ b) ++ (c ++ (d ++ (e ++ (f ++ (g ++ (h ++ (i)))))))
cut_write_states a b c d e f g h i = simp append_assoc

cut_write_answer : (a b c d e f g h i : List ℕ) → a ++ b ++ c ++ d ++ e ++ f ++ g ++ h ++ i ≡ (a ++ b ++ c) ++ (d ++ (e ++ (f ++ (g ++ (h ++ (i))))))
cut_write_answer a b c d e f g h i = simp append_assoc

cut_write_bytes : (a b c d e f g h i : List ℕ) → a ++ b ++ c ++ d ++ e ++ f ++ g ++ h ++ i ≡ (a ++ b ++ c ++ d) ++ (e ++ (f ++ (g ++ (h ++ (i)))))
cut_write_bytes a b c d e f g h i = simp append_assoc

cut_write_counts : (a b c d e f g h i : List ℕ) → a ++ b ++ c ++ d ++ e ++ f ++ g ++ h ++ i ≡ (a ++ b ++ c ++ d ++ e) ++ (f ++ (g ++ (h ++ (i))))
cut_write_counts a b c d e f g h i = simp append_assoc

cut_write_flags : (a b c d e f g h i : List ℕ) → a ++ b ++ c ++ d ++ e ++ f ++ g ++ h ++ i ≡ (a ++ b ++ c ++ d ++ e ++ f) ++ (g ++ (h ++ (i)))
cut_write_flags a b c d e f g h i = simp append_assoc

cut_write_condition : (a b c d e f g h i : List ℕ) → a ++ b ++ c ++ d ++ e ++ f ++ g ++ h ++ i ≡ (a ++ b ++ c ++ d ++ e ++ f ++ g) ++ (h ++ (i))
cut_write_condition a b c d e f g h i = simp append_assoc

pub returns-in_err-write_name : goal.returns-in_err-write_name
returns-in_err-write_name g c =
    let v = c.args.finding.now in
    exit _ _ _ _ c.from_residual.result [] _ ((count_line v) ++ ((state_lines v) ++ ((answer_line v) ++ ((line (codes "Witnesses")) ++ ((counts_line v) ++ ((flag_lines v) ++ ((condition_line v) ++ ((observation_line v))))))))) _ c.from_residual.ensures.0 (Appends-nil _) c.in_err-write_name.ensures
    (cut_write_name (name_line v) (count_line v) (state_lines v) (answer_line v) (line (codes "Witnesses")) (counts_line v) (flag_lines v) (condition_line v) (observation_line v))

pub returns-in_err-write_count : goal.returns-in_err-write_count
returns-in_err-write_count g c =
    let v = c.args.finding.now in
    exit _ _ _ _ c.from_residual-in_err-write_count.result _ _ ((state_lines v) ++ ((answer_line v) ++ ((line (codes "Witnesses")) ++ ((counts_line v) ++ ((flag_lines v) ++ ((condition_line v) ++ ((observation_line v)))))))) _ c.from_residual-in_err-write_count.ensures.0 c.in_ok-write_name.ensures c.in_err-write_count.ensures
    (cut_write_count (name_line v) (count_line v) (state_lines v) (answer_line v) (line (codes "Witnesses")) (counts_line v) (flag_lines v) (condition_line v) (observation_line v))

pub returns-in_err-write_states : goal.returns-in_err-write_states
returns-in_err-write_states g c =
    let v = c.args.finding.now in
    exit _ _ _ _ c.from_residual-in_err-write_states.result _ _ ((answer_line v) ++ ((line (codes "Witnesses")) ++ ((counts_line v) ++ ((flag_lines v) ++ ((condition_line v) ++ ((observation_line v))))))) _ c.from_residual-in_err-write_states.ensures.0 (Appends-trans _ _ _ _ _ c.in_ok-write_name.ensures c.in_ok-write_count.ensures) (rw (c.places.ensures, c.states.ensures) at c.in_err-write_states.ensures)
    (cut_write_states (name_line v) (count_line v) (state_lines v) (answer_line v) (line (codes "Witnesses")) (counts_line v) (flag_lines v) (condition_line v) (observation_line v))

pub returns-in_err-write_answer : goal.returns-in_err-write_answer
returns-in_err-write_answer g c =
    let v = c.args.finding.now in
    exit _ _ _ _ c.from_residual-in_err-write_answer.result _ _ ((line (codes "Witnesses")) ++ ((counts_line v) ++ ((flag_lines v) ++ ((condition_line v) ++ ((observation_line v)))))) _ c.from_residual-in_err-write_answer.ensures.0 (Appends-trans _ _ _ _ _ (Appends-trans _ _ _ _ _ c.in_ok-write_name.ensures c.in_ok-write_count.ensures) (rw (c.places.ensures, c.states.ensures) at c.in_ok-write_states.ensures)) c.in_err-write_answer.ensures
    (cut_write_answer (name_line v) (count_line v) (state_lines v) (answer_line v) (line (codes "Witnesses")) (counts_line v) (flag_lines v) (condition_line v) (observation_line v))

pub returns-in_err-write_bytes : goal.returns-in_err-write_bytes
returns-in_err-write_bytes g c =
    let v = c.args.finding.now in
    exit _ _ _ _ c.from_residual-in_err-write_bytes.result _ _ ((counts_line v) ++ ((flag_lines v) ++ ((condition_line v) ++ ((observation_line v))))) _ c.from_residual-in_err-write_bytes.ensures.0 (Appends-trans _ _ _ _ _ (Appends-trans _ _ _ _ _ (Appends-trans _ _ _ _ _ c.in_ok-write_name.ensures c.in_ok-write_count.ensures) (rw (c.places.ensures, c.states.ensures) at c.in_ok-write_states.ensures)) c.in_ok-write_answer.ensures) c.in_err-write_bytes.ensures
    (cut_write_bytes (name_line v) (count_line v) (state_lines v) (answer_line v) (line (codes "Witnesses")) (counts_line v) (flag_lines v) (condition_line v) (observation_line v))

pub returns-in_err-write_counts : goal.returns-in_err-write_counts
returns-in_err-write_counts g c =
    let v = c.args.finding.now in
    exit _ _ _ _ c.from_residual-in_err-write_counts.result _ _ ((flag_lines v) ++ ((condition_line v) ++ ((observation_line v)))) _ c.from_residual-in_err-write_counts.ensures.0 (Appends-trans _ _ _ _ _ (Appends-trans _ _ _ _ _ (Appends-trans _ _ _ _ _ (Appends-trans _ _ _ _ _ c.in_ok-write_name.ensures c.in_ok-write_count.ensures) (rw (c.places.ensures, c.states.ensures) at c.in_ok-write_states.ensures)) c.in_ok-write_answer.ensures) c.in_ok-write_bytes.ensures) c.in_err-write_counts.ensures
    (cut_write_counts (name_line v) (count_line v) (state_lines v) (answer_line v) (line (codes "Witnesses")) (counts_line v) (flag_lines v) (condition_line v) (observation_line v))

pub returns-in_err-write_flags : goal.returns-in_err-write_flags
returns-in_err-write_flags g c =
    let v = c.args.finding.now in
    exit _ _ _ _ c.from_residual-in_err-write_flags.result _ _ ((condition_line v) ++ ((observation_line v))) _ c.from_residual-in_err-write_flags.ensures.0 (Appends-trans _ _ _ _ _ (Appends-trans _ _ _ _ _ (Appends-trans _ _ _ _ _ (Appends-trans _ _ _ _ _ (Appends-trans _ _ _ _ _ c.in_ok-write_name.ensures c.in_ok-write_count.ensures) (rw (c.places.ensures, c.states.ensures) at c.in_ok-write_states.ensures)) c.in_ok-write_answer.ensures) c.in_ok-write_bytes.ensures) c.in_ok-write_counts.ensures) (rw c.flags.ensures at c.in_err-write_flags.ensures)
    (cut_write_flags (name_line v) (count_line v) (state_lines v) (answer_line v) (line (codes "Witnesses")) (counts_line v) (flag_lines v) (condition_line v) (observation_line v))

pub returns-in_err-write_condition : goal.returns-in_err-write_condition
returns-in_err-write_condition g c =
    let v = c.args.finding.now in
    exit _ _ _ _ c.from_residual-in_err-write_condition.result _ _ ((observation_line v)) _ c.from_residual-in_err-write_condition.ensures.0 (Appends-trans _ _ _ _ _ (Appends-trans _ _ _ _ _ (Appends-trans _ _ _ _ _ (Appends-trans _ _ _ _ _ (Appends-trans _ _ _ _ _ (Appends-trans _ _ _ _ _ c.in_ok-write_name.ensures c.in_ok-write_count.ensures) (rw (c.places.ensures, c.states.ensures) at c.in_ok-write_states.ensures)) c.in_ok-write_answer.ensures) c.in_ok-write_bytes.ensures) c.in_ok-write_counts.ensures) (rw c.flags.ensures at c.in_ok-write_flags.ensures)) c.in_err-write_condition.ensures
    (cut_write_condition (name_line v) (count_line v) (state_lines v) (answer_line v) (line (codes "Witnesses")) (counts_line v) (flag_lines v) (condition_line v) (observation_line v))

pub returns : goal.returns
returns g c =
    after _ _ _ _ _ _ _ _ (Appends-trans _ _ _ _ _ (Appends-trans _ _ _ _ _ (Appends-trans _ _ _ _ _ (Appends-trans _ _ _ _ _ (Appends-trans _ _ _ _ _ (Appends-trans _ _ _ _ _ (Appends-trans _ _ _ _ _ c.in_ok-write_name.ensures c.in_ok-write_count.ensures) (rw (c.places.ensures, c.states.ensures) at c.in_ok-write_states.ensures)) c.in_ok-write_answer.ensures) c.in_ok-write_bytes.ensures) c.in_ok-write_counts.ensures) (rw c.flags.ensures at c.in_ok-write_flags.ensures)) c.in_ok-write_condition.ensures) c.write_observation.ensures refl
