-- Calls that set something in a window, and those that write in it before.
use Rattle.std.proofs.Common.{◌≡◌, ℕ, ◌∙◌, sym, ap, Result, Ok, Err, Bool, true, cond}
use Rattle.scr_cells.specs.CellViews.{CellView}
use Rattle.scr_windows.specs.declared.surfaces.areas.Area.{Area}
use Rattle.scr_windows.specs.declared.frames.WindowState.{WindowState}
use Rattle.scr_windows.specs.declared.frames.Canvas.{Canvas}
use Rattle.scr_windows.specs.declared.faults.WinFault.{WinFault}
use Rattle.scr_windows.specs.DeskViews.{DeskView, window_at}
use Rattle.scr_windows.specs.Code.Canvases.{IsCanvas}
use Rattle.scr_windows.specs.Changes.{on_window, index_of, with_window, write}
use Rattle.scr_windows.specs.Calls.Settings.{setting, with_state}

-- a call on a window that is there
pub on_index : {A : Type 0} (d : DeskView) (win i : ℕ) (f : ℕ → DeskView × Result A WinFault) → index_of d win ≡ Ok i → f i ≡ on_window d (index_of d win) f
on_index d win i f e = ap (λ r. on_window d r f) (sym e)

-- the whole window is written with something of its area and state, and another state is set
pub rewritten : (d put new : DeskView) (win : ℕ) (canvas : Canvas) (f : WindowState → ℕ → (ℕ → ℕ → CellView) → ℕ → ℕ → CellView) (g : WindowState → WindowState) → IsCanvas d win canvas
    → put ≡ write d canvas.index 0 canvas.area.rows (f canvas.state canvas.area.rows) → new ≡ with_window put canvas.index (record (window_at put canvas.index) { state = g canvas.state })
    → ◌≡◌ {A = DeskView × Result (Unit {0}) WinFault} (new, Ok tt) (on_window d (index_of d win) (λ i. (with_state (write d i 0 (window_at d i).frame.area.rows (f (window_at d i).state (window_at d i).frame.area.rows)) i (g (window_at d i).state), Ok tt)))
rewritten d put new win canvas f g h put_is new_is =
    let i : ℕ = canvas.index in
    let here : new ≡ with_state (write d i 0 (window_at d i).frame.area.rows (f (window_at d i).state (window_at d i).frame.area.rows)) i (g (window_at d i).state)
    = new_is ∙ ap (λ v. with_state v i (g canvas.state)) put_is ∙ (λ j. with_state (write d i 0 (h.area_is j).rows (f (h.state_is j) (h.area_is j).rows)) i (g (h.state_is j))) in
    let one : ◌≡◌ {A = DeskView × Result (Unit {0}) WinFault} (new, Ok tt) (with_state (write d i 0 (window_at d i).frame.area.rows (f (window_at d i).state (window_at d i).frame.area.rows)) i (g (window_at d i).state), Ok tt) = (λ j. (here j, Ok tt)) in
    one ∙ on_index {A = Unit {0}} d win i (λ i. (with_state (write d i 0 (window_at d i).frame.area.rows (f (window_at d i).state (window_at d i).frame.area.rows)) i (g (window_at d i).state), Ok tt)) h.index_is

-- another state is set
pub set_in : (d new : DeskView) (win : ℕ) (canvas : Canvas) (state : WindowState) (g : WindowState → WindowState) → IsCanvas d win canvas → new ≡ with_window d canvas.index (record (window_at d canvas.index) { state = state })
    → state ≡ g canvas.state → ◌≡◌ {A = DeskView × Result (Unit {0}) WinFault} (new, Ok tt) (setting d win g)
set_in d new win canvas state g h new_is state_is =
    let i : ℕ = canvas.index in
    let here : new ≡ with_state d i (g (window_at d i).state) = new_is ∙ ap (λ s. with_state d i s) (state_is ∙ ap g h.state_is) in
    let one : ◌≡◌ {A = DeskView × Result (Unit {0}) WinFault} (new, Ok tt) (with_state d i (g (window_at d i).state), Ok tt) = (λ j. (here j, Ok tt)) in
    one ∙ on_index {A = Unit {0}} d win i (λ i. (with_state d i (g (window_at d i).state), Ok tt)) h.index_is

-- the same where a test of the window's area has to hold
pub set_where : (d new : DeskView) (win : ℕ) (canvas : Canvas) (state : WindowState) (test : Area → Bool) (g : WindowState → WindowState) (fault : WinFault) → IsCanvas d win canvas → test canvas.area ≡ true
    → new ≡ with_window d canvas.index (record (window_at d canvas.index) { state = state }) → state ≡ g canvas.state
    → ◌≡◌ {A = DeskView × Result (Unit {0}) WinFault} (new, Ok tt) (on_window d (index_of d win) (λ i. cond (test (window_at d i).frame.area) (with_state d i (g (window_at d i).state), Ok tt) (d, Err fault)))
set_where d new win canvas state test g fault h holds new_is state_is =
    let i : ℕ = canvas.index in
    let Answer : Type 0 = DeskView × Result (Unit {0}) WinFault in
    let here : new ≡ with_state d i (g (window_at d i).state) = new_is ∙ ap (λ s. with_state d i s) (state_is ∙ ap g h.state_is) in
    let one : ◌≡◌ {A = Answer} (new, Ok tt) (with_state d i (g (window_at d i).state), Ok tt) = (λ j. (here j, Ok tt)) in
    let two : ◌≡◌ {A = Answer} (with_state d i (g (window_at d i).state), Ok tt) (cond (test (window_at d i).frame.area) (with_state d i (g (window_at d i).state), Ok tt) (d, Err fault))
    = ap (λ t. cond t (with_state d i (g (window_at d i).state), Ok tt) (d, Err fault)) (sym holds ∙ ap test h.area_is) in
    one ∙ two ∙ on_index {A = Unit {0}} d win i (λ i. cond (test (window_at d i).frame.area) (with_state d i (g (window_at d i).state), Ok tt) (d, Err fault)) h.index_is

-- a change of a window that is there, and an answer about its state, where a test of its area has to hold
pub changed_where : {A : Type 0} (d new : DeskView) (win : ℕ) (canvas : Canvas) (test : Area → Bool) (f : ℕ → WindowState → DeskView) (answer : WindowState → A) (fault : WinFault) → IsCanvas d win canvas → test canvas.area ≡ true
    → new ≡ f canvas.index canvas.state
    → ◌≡◌ {A = DeskView × Result A WinFault} (new, Ok (answer canvas.state)) (on_window d (index_of d win) (λ i. cond (test (window_at d i).frame.area) (f i (window_at d i).state, Ok (answer (window_at d i).state)) (d, Err fault)))
changed_where {A} d new win canvas test f answer fault h holds new_is =
    let i : ℕ = canvas.index in
    let Answer : Type 0 = DeskView × Result A WinFault in
    let one : ◌≡◌ {A = Answer} (new, Ok (answer canvas.state)) (f i (window_at d i).state, Ok (answer (window_at d i).state)) = (λ j. ((new_is ∙ ap (f i) h.state_is) j, Ok (answer (h.state_is j)))) in
    let two : ◌≡◌ {A = Answer} (f i (window_at d i).state, Ok (answer (window_at d i).state)) (cond (test (window_at d i).frame.area) (f i (window_at d i).state, Ok (answer (window_at d i).state)) (d, Err fault))
    = ap (λ t. cond t (f i (window_at d i).state, Ok (answer (window_at d i).state)) (d, Err fault)) (sym holds ∙ ap test h.area_is) in
    one ∙ two ∙ on_index {A = A} d win i (λ i. cond (test (window_at d i).frame.area) (f i (window_at d i).state, Ok (answer (window_at d i).state)) (d, Err fault)) h.index_is
