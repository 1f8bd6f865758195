use Rattle.std.proofs.Common.{[], sym}
use Rattle.std.proofs.lemmas.List.{append-nil}
use Rattle.wb_text.proofs.Heads.{head_cat, head_cause_litmus}
use Rattle.wb_text.proofs.head.read_head.Goals as goal

pub returns-in-Cat-clause-head : goal.returns-in-Cat-clause-head
returns-in-Cat-clause-head c = ([], head_cat c.in-Cat.is, sym (append-nil c.args.tokens.now.items))

pub returns-in-Litmus-clause-cause : goal.returns-in-Litmus-clause-cause
returns-in-Litmus-clause-cause c =
    head_cause_litmus c.args.text.now c.args.dialect c.read_words.result c.in-Litmus.is c.read_words.ensures.cause
