use Rattle.wb_text.proofs.OneFault.{cause_once, no_cause}
use Rattle.wb_text.proofs.laws.one_fault.Goals as goal

pub returns : goal.returns
returns c = record {
  one = λ d text f g short m n x y. cause_once short m n x y;
  none = λ d text f ts short m x l. no_cause short m x l;
}
