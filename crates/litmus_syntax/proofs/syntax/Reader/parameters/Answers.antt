use Rattle.std.proofs.Common.{rules, ◌++◌, [], ◌∷◌}
use Rattle.litmus_syntax.proofs.Levels.{parameters_turn, parameter_loop_takes}
use Rattle.litmus_syntax.proofs.ParameterNames.{names_push}
use Rattle.litmus_syntax.specs.Reading.{parameters_more}
use Rattle.litmus_syntax.proofs.syntax.Reader.parameters.Goals as goal

pub loop-names-preserved : goal.loop-names-preserved
unfolding parameters_more
loop-names-preserved c =
    let push = names_push c.loop-names.parameters.items c.in_ok-parameter.parameter in
    let turn = parameters_turn (c.loop-names.parameters.items ++ c.in_ok-parameter.parameter ∷ []) c.parameter.new.self.rest.now in
    search (rules, push, turn)

pub loop-names-smaller : goal.loop-names-smaller
unfolding parameters_more
loop-names-smaller c =
    let takes = parameter_loop_takes c.loop-names.parameters.items c.in_ok-parameter.parameter c.loop-names.self.rest.now c.parameter.new.self.rest.now c.take.new.self.rest.now
    (c.in_ok-parameter.ensures.gives c.loop-names.parameters.items c.loop-names.invariant.named) in
    search (rules, takes)

pub returns-then-not-take : goal.returns-then-not-take
unfolding parameters_more
returns-then-not-take c =
    let turn = parameters_turn (c.loop-names.parameters.items ++ c.in_ok-parameter.parameter ∷ []) c.parameter.new.self.rest.now in
    search (rules, turn)
