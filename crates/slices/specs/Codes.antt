-- Codes by which the prover tells values apart. No contract rests on them.
use Rattle.std.specs.Prelude.{refl, ℕ, List}
use Rattle.std.specs.Coded.{Coded, code_by, coded×, coded_list, coded_ℕ}
use Rattle.cat_model.specs.Models.{Assembly, coded_assembly}
use Rattle.conditions.specs.Conditions.{Condition}
use Rattle.conditions.specs.Codes.{coded_condition}
use Rattle.litmus_tree.specs.Codes.{coded_litmus}
use Rattle.litmus_tree.specs.Tree.{Litmus}
use Rattle.conditions.specs.contracts.place.Place.{the_row as place_row}
use Rattle.conditions.specs.declared.place.Place.{Place}
use Rattle.slices.specs.Courses.{CourseValue}
use Rattle.slices.specs.VerdictValues.{VerdictValue}
use Rattle.slices.specs.Findings.{FindingValue}
use Rattle.slices.specs.Parts.{PieceValue, PieceResultValue}
use Rattle.slices.specs.Tallies.{TallyValue}
use Rattle.slices.specs.declared.span.Span.{Span}
use Rattle.slices.specs.Works.{WorkValue}

abbrev pub coded_finding : Coded FindingValue
coded_finding =
    code_by (List ℕ × (Condition × (List Place × (ℕ × (ℕ × (List (List ℕ) × List (List ℕ)))))))
    (coded× (coded_list coded_ℕ) (coded× coded_condition (coded× (coded_list place_row.coded) (coded× coded_ℕ (coded× coded_ℕ (coded× (coded_list (coded_list coded_ℕ)) (coded_list (coded_list coded_ℕ))))))))
    (λ v. (v.name, (record { kind = v.kind; formula = v.formula }, (v.places, (v.positive, (v.negative, (v.states, v.flags)))))))
    (λ p. record { name = p.0; kind = p.1.0.kind; formula = p.1.0.formula; places = p.1.1.0; positive = p.1.1.1.0; negative = p.1.1.1.1.0; states = p.1.1.1.1.1.0; flags = p.1.1.1.1.1.1 })
    (λ _. refl)

abbrev pub coded_work : Coded WorkValue
coded_work =
    code_by (Litmus × Assembly) (coded× coded_litmus coded_assembly)
    (λ w. (w.test, w.model)) (λ p. record { test = p.0; model = p.1 }) (λ _. refl)

abbrev pub coded_piece : Coded PieceValue
coded_piece =
    code_by (ℕ × (ℕ × (ℕ × (ℕ × (ℕ × WorkValue))))) (coded× coded_ℕ (coded× coded_ℕ (coded× coded_ℕ (coded× coded_ℕ (coded× coded_ℕ coded_work)))))
    (λ p. (p.claim, (p.job, (p.slice, (p.from, (p.to, p.work))))))
    (λ q. record { claim = q.0; job = q.1.0; slice = q.1.1.0; from = q.1.1.1.0; to = q.1.1.1.1.0; work = q.1.1.1.1.1 })
    (λ _. refl)

abbrev pub coded_piece_result : Coded PieceResultValue
coded_piece_result =
    code_by (PieceValue × FindingValue) (coded× coded_piece coded_finding)
    (λ r. (r.piece, r.found)) (λ p. record { piece = p.0; found = p.1 }) (λ _. refl)

abbrev pub coded_span : Coded Span
coded_span = code_by (ℕ × ℕ) (coded× coded_ℕ coded_ℕ) (λ s. (s.from, s.to)) (λ p. record { from = p.0; to = p.1 }) (λ _. refl)

abbrev pub coded_results : Coded TallyValue
coded_results =
    code_by (WorkValue × List Span) (coded× coded_work (coded_list coded_span))
    (λ r. (r.work, r.spans)) (λ p. record { work = p.0; spans = p.1 }) (λ _. refl)

abbrev pub coded_verdict : Coded VerdictValue
coded_verdict =
    code_by (WorkValue × (ℕ × FindingValue)) (coded× coded_work (coded× coded_ℕ coded_finding))
    (λ v. (v.work, (v.version, v.finding))) (λ p. record { work = p.0; version = p.1.0; finding = p.1.1 }) (λ _. refl)

abbrev pub coded_course : Coded CourseValue
coded_course =
    code_by (WorkValue × (ℕ × ℕ)) (coded× coded_work (coded× coded_ℕ coded_ℕ))
    (λ c. (c.work, (c.total, c.done))) (λ p. record { work = p.0; total = p.1.0; done = p.1.1 }) (λ _. refl)
