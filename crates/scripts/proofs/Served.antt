-- Answers one after another, and what stands behind them.
use Rattle.std.proofs.Common.{◌≡◌, ◌⊎◌, ◌∙◌, ℕ, List, [], ◌∷◌, ◌++◌, map, Option, None, Some, Result, Ok, Err, inl, inr, refl, sym, ap, subst, append-nil}
use Rattle.std.specs.Prelude.{IfErr, IsErr, IsErrAnd, OnOk}
use Rattle.std.specs.Io.KnownBytes.{Appends}
use Rattle.std.specs.List.{flat_map}
use Rattle.std.proofs.KnownBytes.{Appends-trans, Appends-nil, prepend_known-nil}
use Rattle.std.proofs.lemmas.Grind.{flat_map-append}
use Rattle.std.proofs.lemmas.List.{map-append}
use Rattle.wb_text.specs.Memory.{AppendsPrefix}
use Rattle.wb_text.specs.declared.fault.Failed.{Failed}
use Rattle.sessions.specs.declared.ending.FinishCause.{FinishCause}
use Rattle.report.proofs.Written.{prefix_of}
use Rattle.scripts.specs.Lines.{ahead, AreLines, IsTooLong, Loses, nothing_read}
use Rattle.scripts.proofs.Taken.{lost_both}
use Rattle.scripts.specs.Scripts.{AreInstructions, IsNextInstruction, IsBadLine, no_instruction, next_instruction}
use Rattle.scripts.specs.declared.reading_fault.ScriptFault.{ScriptFault}
use Rattle.scripts.specs.declared.reading_fault.ScriptFault.TheVariants as reading
use Rattle.scripts.specs.Passes.{EndsWith, Follows, ending}
use Rattle.scripts.specs.Serving.{Call, answer_text, calls_text, entries_of, Closes, Tells, StopsAt, IsRead, IsServed, IsReturnAt, IsLastLine, AreAnswered, no_call, no_last_line}
use Rattle.scripts.specs.declared.fault.ServeFault.{ServeFault}
use Rattle.scripts.specs.declared.fault.ServeFault.TheVariants as faults

flat_map-last : {X Y : Type 0} (f : X → List Y) (xs : List X) (x : X) → flat_map f (xs ++ x ∷ []) ≡ flat_map f xs ++ f x
flat_map-last f xs x = flat_map-append f xs (x ∷ []) ∙ ap (λ l. flat_map f xs ++ l) (append-nil (f x))

-- one answer more

pub written : (old mid new : Option (List ℕ)) (calls : List Call) (c : Call) → Appends old mid (calls_text calls) → Appends mid new (answer_text c.answer) → Appends old new (calls_text (calls ++ c ∷ []))
written old mid new calls c done more =
    let P : List ℕ → Type 0 = λ l. Appends old new l in
    subst P (sym (flat_map-last (λ d. answer_text d.answer) calls c)) (Appends-trans old mid new (calls_text calls) (answer_text c.answer) done more)

pub written_partly : (old mid new : Option (List ℕ)) (calls : List Call) (c : Call) → Appends old mid (calls_text calls) → AppendsPrefix mid new (answer_text c.answer) → AppendsPrefix old new (calls_text (calls ++ c ∷ []))
written_partly old mid new calls c done more =
    prefix_of old mid new (calls_text calls) (answer_text c.answer) [] (calls_text (calls ++ c ∷ [])) done more
    (flat_map-last (λ d. answer_text d.answer) calls c ∙ ap (λ l. calls_text calls ++ l) (sym (append-nil (answer_text c.answer))))

-- the calls ask what the instructions ask

pub instructed : (script mid end : Option (List ℕ)) (calls : List Call) (c : Call) → AreInstructions script mid (map (λ d. d.instruction) calls) → IsNextInstruction mid end c.instruction → AreInstructions script end (map (λ d. d.instruction) (calls ++ c ∷ []))
instructed script mid end calls c done next =
    subst (λ instructions. AreInstructions script end instructions) (sym (map-append (λ d. d.instruction) calls (c ∷ []))) (next_instruction done next)

-- the same of a script of which nothing is taken yet
pub from_start : {A : Type 0} {block : List ℕ} {count : ℕ} (left : Option (List ℕ)) (r : Result A ServeFault) (calls : List Call) → block ≡ [] → count ≡ 0
    → IsRead (ahead block left) count r calls → IsRead left 0 r calls
from_start {block} left r calls empty zero_lines h =
    subst (λ script. IsRead script 0 r calls) (ap (λ b. ahead b left) empty ∙ prepend_known-nil left) (subst (λ m. IsRead (ahead block left) m r calls) zero_lines h)

pub too_long_from_start : {P : Type 0} {block : List ℕ} {count : ℕ} (left : Option (List ℕ)) → block ≡ [] → count ≡ 0 → P ⊎ IsTooLong (ahead block left) count → P ⊎ IsTooLong left 0
too_long_from_start {P} {block} left empty zero_lines h =
    subst (λ script. P ⊎ IsTooLong script 0) (ap (λ b. ahead b left) empty ∙ prepend_known-nil left) (subst (λ m. P ⊎ IsTooLong (ahead block left) m) zero_lines h)

-- what a block keeps is gone from the reader, too
lost_block : (block : List ℕ) (left : Option (List ℕ)) → Loses (ahead block left) left
lost_block block None = (block, tt)
lost_block block (Some bytes) = (block, refl)

pub left_behind : {old : List ℕ} (block : List ℕ) (left next : Option (List ℕ)) → old ≡ [] → Loses (ahead old left) (ahead block next) → Loses left next
left_behind block left next empty h =
    subst (λ script. Loses script next) (ap (λ b. ahead b left) empty ∙ prepend_known-nil left) (lost_both _ (ahead block next) next h (lost_block block next))

-- ---- how a script ended

pub read_failed : (fault : ScriptFault) → ending (Ok (Err fault)) ≡ Err faults.Read → fault ≡ reading.Read
read_failed reading.Read e = refl
read_failed (reading.BadLine line) e = cc
read_failed reading.NoMemory e = cc

pub write_ending : (P : Failed → Type 0) (r : Result (Result (Unit {0}) ScriptFault) Failed) → IsErrAnd r P → ending r ≡ Err faults.Write
write_ending P (Ok done) is = absurd is
write_ending P (Err failed) is = refl

pub tells_ending : (old new : Option (List ℕ)) (fault : ScriptFault) (text : List ℕ) → Appends old new text → Tells old new (ending (Ok (Err fault))) text
tells_ending old new reading.Read text w = w
tells_ending old new (reading.BadLine line) text w = w
tells_ending old new reading.NoMemory text w = w

pub told_ending : (old new : Option (List ℕ)) (fault : ScriptFault) (text : List ℕ) → Tells old new (ending (Ok (Err fault))) text → Appends old new text
told_ending old new reading.Read text w = w
told_ending old new (reading.BadLine line) text w = w
told_ending old new reading.NoMemory text w = w

-- a script that is not read to its end
pub stopped : {script end : Option (List ℕ)} {m count : ℕ} (fault : ScriptFault) (calls : List Call) → AreInstructions script end (map (λ c. c.instruction) calls) → AreLines script m end count
    → ((n : ℕ) → fault ≡ reading.BadLine n → IsBadLine end count n ⊎ IsReturnAt end count n (entries_of calls)) → IsRead script m (ending (Ok (Err fault))) calls
stopped {end} {count} reading.Read calls instructions lines bad = record { end = end; count = count; instructions = instructions; lines = lines; stops = tt }
stopped {end} {count} (reading.BadLine n) calls instructions lines bad = record { end = end; count = count; instructions = instructions; lines = lines; stops = bad n refl }
stopped {end} {count} reading.NoMemory calls instructions lines bad = record { end = end; count = count; instructions = instructions; lines = lines; stops = tt }

-- ---- what stands behind the answers

pub tells_part : {A : Type 0} (old new : Option (List ℕ)) (r : Result A ServeFault) (text : List ℕ) → IsErrAnd r (λ e. e ≡ faults.Write) → AppendsPrefix old new text → Tells old new r text
tells_part old new (Ok done) text is part = absurd is
tells_part old new (Err faults.Read) text is part = cc
tells_part old new (Err faults.Write) text is part = part
tells_part old new (Err (faults.BadLine line)) text is part = cc
tells_part old new (Err (faults.Finish cause)) text is part = cc
tells_part old new (Err faults.NoMemory) text is part = cc

pub closes_partly : {A : Type 0} (workers : ℕ) (calls : List Call) (r : Result A ServeFault) (text : List ℕ) → IsErrAnd r (λ e. e ≡ faults.Write) → IsLastLine text → Closes workers calls r text
closes_partly workers calls (Ok done) text is last = absurd is
closes_partly workers calls (Err faults.Read) text is last = cc
closes_partly workers calls (Err faults.Write) text is last = last
closes_partly workers calls (Err (faults.BadLine line)) text is last = cc
closes_partly workers calls (Err (faults.Finish cause)) text is last = cc
closes_partly workers calls (Err faults.NoMemory) text is last = cc

pub prefix_behind : (old mid new : Option (List ℕ)) (text closing : List ℕ) → Appends old mid text → AppendsPrefix mid new closing → AppendsPrefix old new (text ++ closing)
prefix_behind old mid new text closing done part =
    prefix_of old mid new text closing [] (text ++ closing) done part (ap (λ l. text ++ l) (sym (append-nil closing)))

pub told_behind : {A : Type 0} (old mid new : Option (List ℕ)) (r : Result A ServeFault) (text closing : List ℕ) → Appends old mid text → Tells mid new r closing → Tells old new r (text ++ closing)
told_behind old mid new (Ok done) text closing w t = Appends-trans old mid new text closing w t
told_behind old mid new (Err faults.Read) text closing w t = Appends-trans old mid new text closing w t
told_behind old mid new (Err faults.Write) text closing w t = prefix_behind old mid new text closing w t
told_behind old mid new (Err (faults.BadLine line)) text closing w t = Appends-trans old mid new text closing w t
told_behind old mid new (Err (faults.Finish cause)) text closing w t = Appends-trans old mid new text closing w t
told_behind old mid new (Err faults.NoMemory) text closing w t = Appends-trans old mid new text closing w t

-- ---- the whole

-- no memory for the script or the desk
pub unserved : {A : Type 0} (workers : ℕ) (script held : Option (List ℕ)) (r : Result A ServeFault) → IsErrAnd r (λ e. e ≡ faults.NoMemory) → IsServed workers script held held r
unserved workers script held (Ok done) is = absurd is
unserved workers script held (Err faults.NoMemory) is = record {
  calls = [];
  read = record { end = script; count = 0; instructions = no_instruction; lines = nothing_read; stops = tt };
  answered = no_call;
  closing = [];
  closes = refl;
  reported = Appends-nil held;
}
unserved workers script held (Err faults.Read) is = cc
unserved workers script held (Err faults.Write) is = cc
unserved workers script held (Err (faults.BadLine line)) is = cc
unserved workers script held (Err (faults.Finish cause)) is = cc

-- what stands behind the answers, in text
abbrev pub IsTold : ℕ → List Call → Option (List ℕ) → Option (List ℕ) → Result (Unit {0}) ServeFault → Type 0
IsTold workers calls mid new r = (closing : List ℕ) × Closes workers calls r closing × Tells mid new r closing

-- a script that is read to its end

pub end_told : (workers : ℕ) (calls : List Call) (mid new : Option (List ℕ)) (outcome : Result (Result (Unit {0}) ScriptFault) Failed) (r : Result (Unit {0}) ServeFault) → outcome ≡ Ok (Ok tt)
    → IsTold workers calls mid new r → EndsWith workers calls mid new (ending outcome) r
end_told workers calls mid new outcome r is reported old text before =
    let done : Appends old mid text = subst (λ o. Tells old mid (ending o) text) is before in
    (reported.0, reported.1, told_behind old mid new r text reported.0 done reported.2)

pub end_follows : (outcome : Result (Result (Unit {0}) ScriptFault) Failed) (r : Result (Unit {0}) ServeFault) → outcome ≡ Ok (Ok tt)
    → IfErr r (λ e. (e ≡ faults.Write) ⊎ ((cause : FinishCause) × (e ≡ faults.Finish cause))) → Follows (ending outcome) r
end_follows outcome (Ok done) is fault = ap ending is
end_follows outcome (Err faults.Read) is (inl e) = cc
end_follows outcome (Err faults.Read) is (inr e) = (let same = e.1 in cc)
end_follows outcome (Err faults.Write) is fault = tt
end_follows outcome (Err (faults.BadLine n)) is (inl e) = cc
end_follows outcome (Err (faults.BadLine n)) is (inr e) = (let same = e.1 in cc)
end_follows outcome (Err (faults.Finish cause)) is fault = ap ending is
end_follows outcome (Err faults.NoMemory) is (inl e) = cc
end_follows outcome (Err faults.NoMemory) is (inr e) = (let same = e.1 in cc)

-- a script that is not

pub fault_told : (workers : ℕ) (calls : List Call) (mid new : Option (List ℕ)) (outcome : Result (Result (Unit {0}) ScriptFault) Failed) (fault : ScriptFault) (r : Result (Unit {0}) ServeFault)
    → outcome ≡ Ok (Err fault) → IsTold workers calls mid new r → EndsWith workers calls mid new (ending outcome) r
fault_told workers calls mid new outcome fault r is reported old text before =
    let done : Appends old mid text = told_ending old mid fault text (subst (λ o. Tells old mid (ending o) text) is before) in
    (reported.0, reported.1, told_behind old mid new r text reported.0 done reported.2)

pub fault_follows : (outcome : Result (Result (Unit {0}) ScriptFault) Failed) (fault : ScriptFault) (r : Result (Unit {0}) ServeFault) → outcome ≡ Ok (Err fault) → IsErr r
    → IfErr r (λ e. (e ≡ faults.Write) ⊎ (ending (Ok (Err fault)) ≡ Err e)) → Follows (ending outcome) r
fault_follows outcome fault (Ok done) is err reported = cc
fault_follows outcome fault (Err faults.Write) is err reported = tt
fault_follows outcome fault (Err faults.Read) is err (inl e) = cc
fault_follows outcome fault (Err faults.Read) is err (inr e) = ap ending is ∙ e
fault_follows outcome fault (Err (faults.BadLine n)) is err (inl e) = cc
fault_follows outcome fault (Err (faults.BadLine n)) is err (inr e) = ap ending is ∙ e
fault_follows outcome fault (Err faults.NoMemory) is err (inl e) = cc
fault_follows outcome fault (Err faults.NoMemory) is err (inr e) = ap ending is ∙ e
fault_follows outcome reading.Read (Err (faults.Finish cause)) is err (inl e) = cc
fault_follows outcome reading.Read (Err (faults.Finish cause)) is err (inr e) = cc
fault_follows outcome (reading.BadLine n) (Err (faults.Finish cause)) is err (inl e) = cc
fault_follows outcome (reading.BadLine n) (Err (faults.Finish cause)) is err (inr e) = cc
fault_follows outcome reading.NoMemory (Err (faults.Finish cause)) is err (inl e) = cc
fault_follows outcome reading.NoMemory (Err (faults.Finish cause)) is err (inr e) = cc

-- the writer failed among the answers

pub failed_told : (workers : ℕ) (calls : List Call) (mid : Option (List ℕ)) (outcome : Result (Result (Unit {0}) ScriptFault) Failed) → ending outcome ≡ Err faults.Write
    → EndsWith workers calls mid mid (ending outcome) (Err faults.Write)
failed_told workers calls mid outcome is old text before =
    let part : AppendsPrefix old mid text = subst (λ r. Tells old mid r text) is before in
    ([], no_last_line, prefix_of old old mid [] text [] (text ++ []) (Appends-nil old) part refl)

pub read_follows : {script : Option (List ℕ)} {m : ℕ} (end r : Result (Unit {0}) ServeFault) (calls : List Call) → Follows end r → IsRead script m end calls → IsRead script m r calls
read_follows end (Ok done) calls f h = record { end = h.end; count = h.count; instructions = h.instructions; lines = h.lines; stops = subst (λ q. StopsAt h.end h.count q (entries_of calls)) f h.stops }
read_follows end (Err faults.Read) calls f h = record { end = h.end; count = h.count; instructions = h.instructions; lines = h.lines; stops = tt }
read_follows end (Err faults.Write) calls f h = record { end = h.end; count = h.count; instructions = h.instructions; lines = h.lines; stops = tt }
read_follows end (Err (faults.BadLine n)) calls f h = record { end = h.end; count = h.count; instructions = h.instructions; lines = h.lines; stops = subst (λ q. StopsAt h.end h.count q (entries_of calls)) f h.stops }
read_follows end (Err (faults.Finish cause)) calls f h = record { end = h.end; count = h.count; instructions = h.instructions; lines = h.lines; stops = subst (λ q. StopsAt h.end h.count q (entries_of calls)) f h.stops }
read_follows end (Err faults.NoMemory) calls f h = record { end = h.end; count = h.count; instructions = h.instructions; lines = h.lines; stops = tt }

pub read_fault : (end r : Result (Unit {0}) ServeFault) → Follows end r → r ≡ Err faults.Read → end ≡ Err faults.Read
read_fault end (Ok done) f e = cc
read_fault end (Err faults.Read) f e = f
read_fault end (Err faults.Write) f e = cc
read_fault end (Err (faults.BadLine n)) f e = cc
read_fault end (Err (faults.Finish cause)) f e = cc
read_fault end (Err faults.NoMemory) f e = cc

pub end_ok : (end r : Result (Unit {0}) ServeFault) (P : Type 0) → Follows end r → (end ≡ Ok tt → P) → OnOk r P
end_ok end (Ok done) P f p = p f
end_ok end (Err fault) P f p = tt

pub served : (n workers : ℕ) (script old mid new : Option (List ℕ)) (end r : Result (Unit {0}) ServeFault) (calls : List Call) → n ≡ workers → AreAnswered n calls → Tells old mid end (calls_text calls)
    → IsRead script 0 end calls → Follows end r → EndsWith n calls mid new end r → IsServed workers script old new r
served n workers script old mid new end r calls same answered reported read follows ends =
    let closed = ends old (calls_text calls) reported in
    let P : ℕ → Type 0 = λ w. IsServed w script old new r in
    subst P same (record { calls = calls; read = read_follows end r calls follows read; answered = answered; closing = closed.0; closes = closed.1; reported = closed.2 })
