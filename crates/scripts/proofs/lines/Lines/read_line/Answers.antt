use Rattle.std.proofs.Common.{◌<◌, ◌++◌, [], length, refl, ap, sym, inl, inr, arith, ◌∙◌, Ok, codes, append-nil, append_assoc}
use Rattle.std.proofs.lemmas.Bool.{cases_Bool}
use Rattle.scripts.specs.Lines.{ahead}
use Rattle.scripts.proofs.Taken.{lost_both, lost_front, lost_none, lost_part, on}
use Rattle.scripts.proofs.lines.Lines.read_line.Goals as goal

-- the line was kept while the block was filled
pub returns-then-is_fed-clause-fed : goal.returns-then-is_fed-clause-fed
returns-then-is_fed-clause-fed g c _ =
    let p = c.take_part.ensures.fed (c.in_ok-is_fed.was ∙ ap Ok c.if-is_fed.true) in
    on _ _ (g.R.Source.left c.is_at_end.new.reader) _ _ _ _ p.0 _ (codes "\n") c.loop-self.invariant.grows c.is_at_end.ensures.kept p.1
    (p.2 ∙ ap (λ line. line.items ++ p.0) c.is_at_end.ensures.line) p.3

pub returns-then-len-gt-MOST_BYTES-clause-long : goal.returns-then-len-gt-MOST_BYTES-clause-long
returns-then-len-gt-MOST_BYTES-clause-long g c n e =
    let left = g.R.Source.left c.is_at_end.new.reader in
    let after = ahead c.take_part.new.self.block left in
    let long : 65536 < length c.take_part.new.self.line.items = omega (arith, c.if-len-gt-MOST_BYTES.true, c.len.ensures) in
    elim (cases_Bool c.in_ok-is_fed.is_fed) [
      | inl t ↦ (let p = c.take_part.ensures.fed (c.in_ok-is_fed.was ∙ ap Ok t) in
          (after, codes "\n", on _ _ left _ _ _ _ p.0 _ (codes "\n") c.loop-self.invariant.grows c.is_at_end.ensures.kept p.1 (p.2 ∙ ap (λ line. line.items ++ p.0) c.is_at_end.ensures.line) p.3, long))
      | inr f ↦ (let p = c.take_part.ensures.whole (c.in_ok-is_fed.was ∙ ap Ok f) in (
        after,
        [],
        on _ _ left _ _ _ _ c.is_at_end.new.self.block _ [] c.loop-self.invariant.grows c.is_at_end.ensures.kept p.0
            (p.1 ∙ ap (λ line. line.items ++ c.is_at_end.new.self.block) c.is_at_end.ensures.line) (sym (append-nil c.is_at_end.new.self.block) ∙ ap (λ l. c.is_at_end.new.self.block ++ l) (sym p.2)),
        long,
      ))
    ]

pub returns-then-is_fed-clause-lost : goal.returns-then-is_fed-clause-lost
returns-then-is_fed-clause-lost g c = lost_part _ _ _ _ _ (returns-then-is_fed-clause-fed g c refl)

pub returns-then-len-gt-MOST_BYTES-clause-lost : goal.returns-then-len-gt-MOST_BYTES-clause-lost
returns-then-len-gt-MOST_BYTES-clause-lost g c =
    let left = g.R.Source.left c.is_at_end.new.reader in
    let block = c.is_at_end.new.self.block in
    let behind = c.take_part.new.self.block in
    let filled = lost_both _ _ _ (lost_part _ _ _ _ _ c.loop-self.invariant.grows) (lost_none _ (ahead block left) c.is_at_end.ensures.kept) in
    lost_both _ (ahead block left) _ filled (elim (cases_Bool c.in_ok-is_fed.is_fed) [
      | inl t ↦ (let p = c.take_part.ensures.fed (c.in_ok-is_fed.was ∙ ap Ok t) in lost_front left block behind (p.0 ++ codes "\n") (p.3 ∙ sym (append_assoc p.0 (codes "\n") behind)))
      | inr f ↦ (let p = c.take_part.ensures.whole (c.in_ok-is_fed.was ∙ ap Ok f) in lost_front left block behind block (sym (append-nil block) ∙ ap (λ l. block ++ l) (sym p.2)))
    ])

pub loop-self-preserved : goal.loop-self-preserved
loop-self-preserved g c =
    let p = c.take_part.ensures.whole (c.in_ok-is_fed.was ∙ ap Ok c.if-is_fed.false) in
    record {
      grows = on _ _ (g.R.Source.left c.is_at_end.new.reader) _ _ _ _ c.is_at_end.new.self.block _ [] c.loop-self.invariant.grows c.is_at_end.ensures.kept p.0
          (p.1 ∙ ap (λ line. line.items ++ c.is_at_end.new.self.block) c.is_at_end.ensures.line) (sym (append-nil c.is_at_end.new.self.block ∙ ap (λ l. l) refl) ∙ ap (λ l. c.is_at_end.new.self.block ++ l) (sym p.2));
      count = c.take_part.ensures.count ∙ c.is_at_end.ensures.count ∙ c.loop-self.invariant.count;
      short = λ _. omega (arith, c.if-len-gt-MOST_BYTES.false, c.len.ensures);
    }
