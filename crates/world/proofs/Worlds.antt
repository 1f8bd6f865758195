-- After every list of events.
use Rattle.std.proofs.Common.{◌≡◌, ℕ, zero, suc, ◌⊎◌, List, [], ◌∷◌, length, not, Some, refl, sym, subst, inl, inr, arith}
use Rattle.std.specs.Prelude.{slice_get, slice_set, ◌==◌}
use Rattle.listings.specs.Lists.{IsIn}
use Rattle.listings.proofs.Listings.{in_append}
use Rattle.slices.specs.Parts.{PieceResultValue}
use Rattle.book.specs.Step.{Step, Leads}
use Rattle.book.specs.declared.limits.Limits.{Limits}
use Rattle.journal.specs.Lines.{Line, returned}
use Rattle.journal.specs.declared.records.Said.{Said}
use Rattle.journal.specs.declared.records.Said.TheVariants.{Return}
use Rattle.journal.specs.declared.records.Reply.{Reply}
use Rattle.world.specs.World.{World, Event, calls, returns, refused_whole, evaluates, fails, hands_piece, hands_part, brings, vanishes, beginning, Happens, Passes, IsRight, SaysRight, IsSound, SoundWorld, with_line}
use Rattle.world.proofs.Answering.{verdict_right}
use Rattle.world.proofs.Holds.{nothing_holds}
use Rattle.world.proofs.ByNumber.{filter_in}
use Rattle.world.proofs.Keeps.{Stands, call_keeps, return_keeps, kept_full, step_says, leads_push}

pub record Fine (w : World) : Type 0 where
  pub leads : Leads w.limits w.journal w.book.state
  pub stands : Stands w.book.state w.book.results
  pub said : (e : Line) → IsIn e w.journal → SaysRight e.reply
  pub held : (h : ℕ × PieceResultValue) → IsIn h w.parts → IsRight h.1

pub set_in : {X : Type 0} (xs : List X) (i : ℕ) (y x : X) → IsIn x (slice_set xs i y) → (x ≡ y) ⊎ IsIn x xs
set_in [] i y x h = absurd h
set_in (z ∷ zs) zero y x (inl e) = inl e
set_in (z ∷ zs) zero y x (inr p) = inr (inr p)
set_in (z ∷ zs) (suc i) y x (inl e) = inr (inl e)
set_in (z ∷ zs) (suc i) y x (inr p) = elim (set_in zs i y x p) [ inl e ↦ inl e | inr q ↦ inr (inr q) ]

pub get_in : {X : Type 0} (xs : List X) (i : ℕ) (x : X) → slice_get xs i ≡ Some x → IsIn x xs
get_in [] i x e = cc
get_in (z ∷ zs) zero x e = inl (let same : z ≡ x = cc in sym same)
get_in (z ∷ zs) (suc i) x e = inr (get_in zs i x e)

said_push : (journal : List Line) (seat : ℕ) (said : Said) (reply : Reply) → ((e : Line) → IsIn e journal → SaysRight e.reply) → SaysRight reply → (e : Line) → IsIn e (with_line journal seat said reply) → SaysRight e.reply
said_push journal seat said reply old new e p = elim (in_append journal (record { place = length journal; seat = seat; said = said; reply = reply } ∷ []) e p) [
  | inl a ↦ old e a
  | inr b ↦ elim b [ inl k ↦ (let P : Line → Type 0 = λ l. SaysRight l.reply in subst P (sym k) new) | inr out ↦ absurd out ]
]

becomes : (w' v : World) → w' ≡ v → Fine v → Fine w'
becomes w' v e f = subst Fine (sym e) f

right_of : (actor : ℕ) (part : PieceResultValue) (h : ℕ × PieceResultValue) → h ≡ (actor, part) → IsRight part → IsRight h.1
right_of actor part h e r = let P : ℕ × PieceResultValue → Type 0 = λ k. IsRight k.1 in subst P (sym e) r

pub happens_fine : (w : World) (e : Event) (w' : World) → Happens w e w' → Fine w → Fine w'
happens_fine w (calls actor seat said reply) w' h f =
    let step : Step w.book.state seat said reply h.2.0 = kept_full w.book seat said reply h.2.0 f.stands h.2.1 in
    becomes w' _ h.2.2 (record {
      leads = leads_push 0 _ w.book.state h.2.0 w.journal _ f.leads (omega arith) step;
      stands = call_keeps w.book.state seat said reply h.2.0 w.book.results h.0 step f.stands;
      said = said_push w.journal seat said reply f.said (step_says w.book.state seat said reply h.2.0 step);
      held = f.held;
    })
happens_fine w (returns actor seat part reply) w' h f =
    let step = h.2.1 in
    let said = Return (returned part) in
    becomes w' _ h.2.2 (record {
      leads = leads_push 0 _ w.book.state h.2.0 w.journal _ f.leads (omega arith) step;
      stands = return_keeps w.book.state seat part reply h.2.0 w.book.results (f.held (actor, part) h.0) step f.stands;
      said = said_push w.journal seat said reply f.said (step_says w.book.state seat said reply h.2.0 step);
      held = f.held;
    })
happens_fine w (refused_whole actor seat said) w' h f = becomes w' w h f
happens_fine w (evaluates actor piece found) w' h f =
    becomes w' _ h.2 (record { leads = f.leads; stands = f.stands; said = f.said; held = λ k p. elim p [ inl e ↦ right_of actor (record { piece = piece; found = found }) k e h.1 | inr q ↦ f.held k q ] })
happens_fine w (fails actor piece) w' h f = becomes w' w h.1 f
happens_fine w (hands_piece from to place piece) w' h f = becomes w' _ h.1 (record { leads = f.leads; stands = f.stands; said = f.said; held = f.held })
happens_fine w (hands_part from to place part) w' h f =
    becomes w' _ h.1 (record { leads = f.leads; stands = f.stands; said = f.said; held = λ k p. elim (set_in w.parts place (to, part) k p) [ inl e ↦ right_of to part k e (f.held (from, part) (get_in w.parts place (from, part) h.0)) | inr q ↦ f.held k q ] })
happens_fine w (brings actor part) w' h f =
    becomes w' _ h.1 (record { leads = f.leads; stands = f.stands; said = f.said; held = λ k p. elim p [ inl e ↦ right_of actor part k e h.0 | inr q ↦ f.held k q ] })
happens_fine w (vanishes actor) w' h f =
    becomes w' _ h (record { leads = f.leads; stands = f.stands; said = f.said; held = λ k p. f.held k (filter_in (λ (x : ℕ × PieceResultValue). not (x.0 == actor)) w.parts k p).0 })

pub passes_fine : (w : World) (es : List Event) (w' : World) → Passes w es w' → Fine w → Fine w'
passes_fine w [] w' h f = becomes w' w h f
passes_fine w (e ∷ es) w' h f = passes_fine h.0 es w' h.2 (happens_fine w e h.0 h.1 f)

pub beginning_fine : (limits : Limits) → Fine (beginning limits)
beginning_fine limits = record { leads = refl; stands = nothing_holds; said = λ e p. absurd p; held = λ h p. absurd p }

pub fine_sound : (w : World) → Fine w → IsSound w
fine_sound w f = record {
  leads = f.leads;
  distinct = f.stands.distinct;
  exact = f.stands.exact;
  right = f.stands.right;
  said = f.said;
  verdict = λ id v job e p. verdict_right w.book.state.jobs w.book.state.live w.book.state.last_job w.book.results id v job f.stands e p;
}

pub world : SoundWorld
world limits es w h = fine_sound w (passes_fine (beginning limits) es w h (beginning_fine limits))
