-- Candidates with one number, of runs that do the same.
use Rattle.std.proofs.Common.{◌≡◌, ℕ, suc, ◌/◌, ◌%◌, List, [], ◌∷◌, length, map, get_or, Bool, true, Option, None, Some, refl, sym, ◌∙◌, ap, subst}
use Rattle.std.specs.Prelude.{IfSome}
use Rattle.events.specs.declared.event.Event.{Event}
use Rattle.events.specs.declared.event.EventId.{EventId}
use Rattle.events.specs.declared.event.EventId.TheVariants.{Initial}
use Rattle.events.specs.declared.graph.GraphParts.{GraphParts}
use Rattle.events.specs.Executions.{ThreadRun}
use Rattle.listings.specs.Lists.{product_by}
use Rattle.candidates.specs.Candidates.{count_co, count_sources, orders_by, rf_at, source_at}
use Rattle.candidates.specs.Executions.{reads}
use Rattle.candidates.specs.Outlines.{HasNumber, outline, outlines}
use Rattle.candidates.specs.Readings.{IsPage, read_at}
use Rattle.candidates.specs.declared.page.Page.{Page}
use Rattle.candidates.proofs.ByLocation.{product_same}
use Rattle.candidates.proofs.Outlining.{co_same, later_same, orders_alike, reads_alike, sources_by_outline}

read_by_outline : (runs : List ThreadRun) (es : List Event) (k : ℕ) → read_at runs es k ≡ read_at runs (map outline es) k
read_by_outline runs [] k = refl
read_by_outline runs (e ∷ es) k =
    let m = product_by (count_sources runs) (map outline es) in
    ap (λ n. source_at runs e (k / n) ∷ read_at runs es (k % n)) (sources_by_outline runs es)
    ∙ ap (λ (ws : List EventId). source_at runs e (k / m) ∷ ws) (read_by_outline runs es (k % m))

read_same : (as' bs : List ThreadRun) → outlines as' ≡ outlines bs → (es : List Event) (k : ℕ) → read_at as' es k ≡ read_at bs es k
read_same as' bs o [] k = refl
read_same as' bs o (e ∷ es) k =
    let m = product_by (count_sources bs) es in
    ap (λ n. source_at as' e (k / n) ∷ read_at as' es (k % n)) (product_same (count_sources as') (count_sources bs) (λ (r : Event). ap (λ (ws : List EventId). suc (length ws)) (later_same as' bs o r.loc)) es)
    ∙ ap (λ (ws : List EventId). get_or (Initial e.loc ∷ ws) (k / m) (Initial 0) ∷ read_at as' es (k % m)) (later_same as' bs o e.loc)
    ∙ ap (λ (ws : List EventId). source_at bs e (k / m) ∷ ws) (read_same as' bs o es (k % m))

rf_alike : (as' bs : List ThreadRun) → outlines as' ≡ outlines bs → (k : ℕ) → rf_at as' k ≡ rf_at bs k
rf_alike as' bs o k =
    read_same as' bs o (reads as') k ∙ read_by_outline bs (reads as') k ∙ ap (λ (es : List Event). read_at bs es k) (reads_alike as' bs o) ∙ sym (read_by_outline bs (reads bs) k)

-- The maps of the candidate of the page's runs with the number k.
abbrev pub HasMaps : ℕ → GraphParts → Page → ℕ → Type 0
HasMaps n parts p k = (parts.rf.items ≡ rf_at p.runs.items (k / p.orders)) × (parts.co.items ≡ orders_by n p.runs.items (k % p.orders))

-- Parts whose number is known are those of the page's candidate with this number, where its runs do the same.
pub known_on : (n : ℕ) (parts : GraphParts) (p : Page) (known found : Option ℕ) (alike : Bool) → IsPage n p → IfSome known (HasNumber n parts) → IfSome found (λ k. (known ≡ Some k) × (alike ≡ true)) → (alike ≡ true → outlines parts.runs.items ≡ outlines p.runs.items) → IfSome found (HasMaps n parts p)
known_on n parts p known None alike h has f same = tt
known_on n parts p known (Some k) alike h has f same =
    let P : Option ℕ → Type 0 = λ o. IfSome o (HasNumber n parts) in
    let was : HasNumber n parts k = subst P f.0 has in
    let o = same f.1 in
    let orders : count_co n parts.runs.items ≡ p.orders = co_same parts.runs.items p.runs.items o n ∙ sym h.orders in (
      was.0 ∙ rf_alike parts.runs.items p.runs.items o (k / count_co n parts.runs.items) ∙ ap (λ c. rf_at p.runs.items (k / c)) orders,
      was.1 ∙ orders_alike parts.runs.items p.runs.items o n (k % count_co n parts.runs.items) ∙ ap (λ c. orders_by n p.runs.items (k % c)) orders,
    )
