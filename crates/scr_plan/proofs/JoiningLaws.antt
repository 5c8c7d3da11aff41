-- The joined repaint, operation by operation.
use Rattle.std.proofs.lemmas.Bool.Decides.{nat_tests}
use Rattle.std.proofs.Common.{◌≡◌, ℕ, ◌+◌, ◌||◌, ◌⊎◌, Bool, true, false, refl, sym, ◌∙◌, ap, subst, arith, append_assoc, List, [], ◌∷◌, ◌++◌, length, map, Option, Some, if◌then◌else◌}
use Rattle.std.proofs.lemmas.List.{append-nil}
use Rattle.std.proofs.lemmas.Nat.{and_le_r}
use Rattle.std.proofs.Math.Bool.{or-true}
use Rattle.std.proofs.Math.Seq.{drop-append_seam, take-append_seam}
use Rattle.scr_cells.specs.declared.charsets.Charset.TheVariants.{Utf8}
use Rattle.scr_cells.specs.Grids.{grid_with, is_in_run}
use Rattle.scr_cells.specs.PenViews.{PenView, is_plain_pen, plain_pen}
use Rattle.scr_cells.specs.PictureViews.{PictureView, IsPicture, IsPlace}
use Rattle.scr_term.specs.declared.operations.capability.Capability.TheVariants.{Sgr0}
use Rattle.scr_term.specs.declared.operations.operation.Op.{Op}
use Rattle.scr_term.specs.declared.operations.operation.Op.TheVariants.{EraseLine, Move, Put, Write}
use Rattle.scr_term.specs.declared.operations.operation.Spot.{Spot}
use Rattle.scr_term.specs.declared.operations.operation.Spot.TheVariants.{At}
use Rattle.scr_term.specs.Operations.Abilities.{full_abilities}
use Rattle.scr_term.specs.Operations.Laws.{HasLaws, ProfilesHave, RunLaws}
use Rattle.scr_term.specs.Operations.Profiles.{ProfileView, IsProfile, abilities, is_there}
use Rattle.scr_term.specs.Operations.States.{TerminalState, IsShownPen, IsState, erased, spot_after, written_at}
use Rattle.scr_term.specs.Operations.Steps.{runs}
use Rattle.scr_term.specs.Operations.Texts.{has, put_of, bytes_of}
use Rattle.scr_plan.proofs.JoinedLaws.{without_step}
use Rattle.scr_plan.proofs.JoinedPriceLaws.{price, price_is, put_price}
use Rattle.scr_plan.proofs.PlaceLaws.{at_place, begun_run, erases_line, first_step, move_run, one_run, plain, then_runs, put_by}
use Rattle.scr_plan.specs.Code.Joinings.{Continues, CountsAtMost, IsAdded, IsCounted, IsJoining, counted_up}
use Rattle.scr_plan.specs.Code.Painters.{moves_unless_there, painter_begins, painter_leads, painter_of, resets_unless_plain}
use Rattle.scr_memory.specs.Memories.{IsMemory, MemoryView, is_in_place}
use Rattle.scr_plan.specs.Repaints.{is_idle, without_idle}
use Rattle.scr_plan.specs.Scratch.{enter, goes, look_at, renders, resets, sets_background, sets_foreground}
use Rattle.scr_plan.specs.declared.drafts.Draft.{Draft}
use Rattle.scr_plan.specs.declared.painting.Painter.{Painter}

-- ---- steps that change nothing

-- of operations one after another
pub idle_joined : (profile : ProfileView) (old next : TerminalState) (xs ys : List Op) → runs profile old xs ≡ Some next → without_idle profile old (xs ++ ys) ≡ without_idle profile old xs ++ without_idle profile next ys
idle_joined profile old next [] ys run = grind arith
idle_joined profile old next (op ∷ xs) ys run =
    let first = first_step profile old next op xs run in
    let own : List Op = if is_idle old op then [] else op ∷ [] in
    without_step profile old first.0 op (xs ++ ys) first.1
    ∙ ap (λ ops. own ++ ops) (idle_joined profile first.0 next xs ys first.2)
    ∙ sym (append_assoc own (without_idle profile first.0 xs) (without_idle profile next ys))
    ∙ sym (ap (λ ops. ops ++ without_idle profile next ys) (without_step profile old first.0 op xs first.1))

-- operations that change something everywhere
busy : (profile : ProfileView) (state : TerminalState) (op : Op) → ((s : TerminalState) → is_idle s op ≡ false) → (rest : List Op) → ((s : TerminalState) → without_idle profile s rest ≡ rest) → without_idle profile state (op ∷ rest) ≡ op ∷ rest
busy profile state op never rest more = grind arith

enters_busy : (profile : ProfileView) (attributes : List ℕ) (rest : List Op) → ((s : TerminalState) → without_idle profile s rest ≡ rest) → (s : TerminalState) → without_idle profile s (map enter attributes ++ rest) ≡ map enter attributes ++ rest
enters_busy profile [] rest more s = more s
enters_busy profile (a ∷ attributes) rest more s = busy profile s (enter a) (λ s. refl) (map enter attributes ++ rest) (enters_busy profile attributes rest more)

foreground_busy : (profile : ProfileView) (f b : Option ℕ) (s : TerminalState) → without_idle profile s (sets_foreground f ++ sets_background b) ≡ sets_foreground f ++ sets_background b
foreground_busy profile f b s = grind arith

renders_busy : (profile : ProfileView) (pen : PenView) (s : TerminalState) → without_idle profile s (renders pen) ≡ renders pen
renders_busy profile pen s = grind (arith, append_assoc, enters_busy, foreground_busy)

-- ---- what is left of some operations

-- what operations become from a state, and where both lead
pub record Becomes (profile : ProfileView) (old new : TerminalState) (more kept : List Op) : Type 0 where
  pub run : runs profile old more ≡ Some new
  pub kept_run : runs profile old kept ≡ Some new
  pub less : without_idle profile old more ≡ kept

both_become : RunLaws → (profile : ProfileView) (old mid new : TerminalState) (xs ys some more : List Op) → Becomes profile old mid xs some → Becomes profile mid new ys more → Becomes profile old new (xs ++ ys) (some ++ more)
both_become laws profile old mid new xs ys some more first second = grind (arith, then_runs, idle_joined)

-- one operation that is idle or not
one_becomes : (profile : ProfileView) (old new : TerminalState) (op : Op) → runs profile old (op ∷ []) ≡ Some new → (b : Bool) → is_idle old op ≡ b → Becomes profile old new (op ∷ []) (if b then [] else op ∷ [])
one_becomes profile old new op run b idle = grind arith

busy_becomes : (profile : ProfileView) (old new : TerminalState) (ops : List Op) → runs profile old ops ≡ Some new → without_idle profile old ops ≡ ops → Becomes profile old new ops ops
busy_becomes profile old new ops run less = record { run = run; kept_run = run; less = less }

-- ---- what a joining becomes

-- operations that were pushed after the others and then counted
pub counted : (profile : ProfileView) (old mid new : Draft) (begun : ℕ) (more : List Op) (spot : Spot) (pen : PenView) → begun ≡ length old.ops.items → mid.ops.items ≡ old.ops.items ++ more → mid.bytes ≡ old.bytes
    → mid.keeps ≡ old.keeps → IsCounted profile mid new begun spot pen → IsAdded profile old new more spot pen
counted profile old mid new begun more spot pen at added bytes keeps paid = grind (arith, drop-append_seam, take-append_seam)

-- what was added of operations is what is left of them
led : RunLaws → (profile : ProfileView) → IsProfile profile → (stores : Bool) (first : List Op) (start : TerminalState) (all : List Op) (old new : Draft) (more kept : List Op) (spot : Spot) (pen : PenView) (next : TerminalState) → IsAdded profile old new kept spot pen
    → (joining : IsJoining profile stores first start all old) → Becomes profile joining.now next more kept → next.spot ≡ spot → next.pen ≡ pen → IsJoining profile stores first start (all ++ more) new
led laws profile p stores first start all old new more kept spot pen next added joining becomes spot_is pen_is =
    let before : List Op = without_idle profile start all in
    let less : without_idle profile start (all ++ more) ≡ before ++ kept = idle_joined profile start joining.now all more joining.run ∙ ap (λ ops. before ++ ops) becomes.less in
    record {
      now = next;
      run = then_runs laws profile start joining.now next all more joining.run becomes.run;
      state = laws.kept profile p joining.now next joining.state more becomes.run;
      spot = spot_is ∙ sym added.spot_is;
      pen = pen_is ∙ sym added.pen_is;
      bytes = rw less (omega (arith, added.bytes (laws.had profile joining.now next kept becomes.kept_run), joining.bytes, (price_is laws profile).joined before kept));
      stored = added.keeps ∙ joining.stored;
      ops = λ storing. rw less (added.ops (joining.stored ∙ storing) ∙ ap (λ ops. ops ++ kept) (joining.ops storing) ∙ append_assoc first before kept);
      left = λ dropping. added.left (joining.stored ∙ dropping) ∙ joining.left dropping;
    }

-- ---- motions and turns

resets_become : (profile : ProfileView) → HasLaws profile → (old : TerminalState) → IsShownPen (abilities profile) old.pen → Becomes profile old (plain old) (resets profile) (resets_unless_plain (painter_of profile) old.pen)
resets_become profile can old shown = grind arith

move_becomes : (profile : ProfileView) → HasLaws profile → (old : TerminalState) (place : ℕ × ℕ) → IsPlace profile.rows profile.columns place → (profile.msgr || is_plain_pen old.pen) ≡ true
    → Becomes profile old (at_place old place) (Move place.0 place.1 ∷ []) (moves_unless_there old.spot place)
move_becomes profile can old place inside free = one_becomes profile old (at_place old place) (Move place.0 place.1) (move_run profile can old place inside free) (is_in_place old.spot place) refl

goes_become : RunLaws → (profile : ProfileView) → HasLaws profile → (old : TerminalState) → IsShownPen (abilities profile) old.pen → (place : ℕ × ℕ) → IsPlace profile.rows profile.columns place → (b : Bool) → profile.msgr ≡ b
    → Becomes profile old (plain (at_place old place)) (if b then Move place.0 place.1 ∷ resets profile else resets profile ++ Move place.0 place.1 ∷ [])
    (if b then moves_unless_there old.spot place ++ resets_unless_plain (painter_of profile) old.pen else resets_unless_plain (painter_of profile) old.pen ++ moves_unless_there old.spot place)
goes_become laws profile can old shown place inside b free = grind (arith, nat_tests, both_become, at_place, plain, move_becomes, resets_become, or-true)

begins_become : RunLaws → ProfilesHave → (profile : ProfileView) → IsProfile profile → (picture : PictureView) → IsPicture picture → (place : ℕ × ℕ) → IsPlace profile.rows profile.columns place → (old : TerminalState) → IsState (abilities profile) old
    → Becomes profile old (record { grid = old.grid; spot = At place.0 place.1; pen = (look_at profile picture place).pen }) (painter_begins (painter_of profile) place (look_at profile picture place).pen) (painter_leads (painter_of profile) old.spot old.pen place (look_at profile picture place).pen)
begins_become laws have profile p picture k place inside old state =
    let pen : PenView = (look_at profile picture place).pen in
    let there : TerminalState = plain (at_place old place) in
    let new : TerminalState = record { grid = old.grid; spot = At place.0 place.1; pen = pen } in
    both_become laws profile old there new (goes profile place) (renders pen) _ (renders pen)
    (goes_become laws profile (have profile p) old state.pen place inside profile.msgr refl)
    (busy_becomes profile there new (renders pen) (begun_run laws have profile p picture k place old) (renders_busy profile pen there))

-- ---- what each part adds

-- a plain pen, and default colours
pub reset_goes : RunLaws → ProfilesHave → (profile : ProfileView) → IsProfile profile → (painter : Painter) → painter ≡ painter_of profile → (old new : Draft) (pen : PenView)
    → IsAdded profile old new (resets_unless_plain painter old.pen) old.spot pen → pen ≡ plain_pen → Continues profile old new (resets profile)
reset_goes laws have profile p painter who old new pen added is_plain stores first start all joining =
    led laws profile p stores first start all old new (resets profile) (resets_unless_plain painter old.pen) old.spot pen (plain joining.now) added joining
    (subst (Becomes profile joining.now (plain joining.now) (resets profile)) (λ i. resets_unless_plain (sym who i) (joining.pen i)) (resets_become profile (have profile p) joining.now joining.state.pen)) joining.spot (sym is_plain)

-- what leads to a place
pub begin_goes : RunLaws → ProfilesHave → (profile : ProfileView) → IsProfile profile → (picture : PictureView) → IsPicture picture → (painter : Painter) → painter ≡ painter_of profile → (place : ℕ × ℕ) → IsPlace profile.rows profile.columns place → (pen : PenView) → pen ≡ (look_at profile picture place).pen
    → (old new : Draft) → IsAdded profile old new (painter_leads painter old.spot old.pen place pen) (At place.0 place.1) pen → Continues profile old new (painter_begins painter place pen)
begin_goes laws have profile p picture k painter who place inside pen is old new added stores first start all joining =
    let own : PenView = (look_at profile picture place).pen in
    let next : TerminalState = record { grid = joining.now.grid; spot = At place.0 place.1; pen = own } in
    led laws profile p stores first start all old new (painter_begins painter place pen) (painter_leads painter old.spot old.pen place pen) (At place.0 place.1) pen next added joining
    (subst (Becomes profile joining.now next (painter_begins painter place pen)) (λ i. painter_leads (sym who i) (joining.spot i) (joining.pen i) place (sym is i))
    (subst (λ ops. Becomes profile joining.now next ops (painter_leads (painter_of profile) joining.now.spot joining.now.pen place own)) (λ i. painter_begins (sym who i) place (sym is i)) (begins_become laws have profile p picture k place inside joining.now joining.state)))
    refl (sym is)

-- a character
put_stays : (profile : ProfileView) (code : ℕ) (state : TerminalState) → without_idle profile state (put_of code ∷ []) ≡ put_of code ∷ []
put_stays profile code state = put_by (λ op. without_idle profile state (op ∷ []) ≡ op ∷ []) code (busy profile state (Put code) (λ s. refl) [] (λ s. refl)) (busy profile state (Write code) (λ s. refl) [] (λ s. refl))

pub put_goes : RunLaws → (profile : ProfileView) → IsProfile profile → HasLaws profile → (code : ℕ) → has profile (put_of code) ≡ true → (old new : Draft) (r c : ℕ) → old.spot ≡ At r c
    → (old.keeps ≡ true → new.ops.items ≡ old.ops.items ++ put_of code ∷ []) → (old.keeps ≡ false → new.ops.items ≡ old.ops.items) → new.bytes ≡ counted_up (old.bytes + length (bytes_of profile (put_of code))) → new.keeps ≡ old.keeps → new.spot ≡ spot_after profile.columns r c → new.pen ≡ old.pen
    → Continues profile old new (put_of code ∷ [])
put_goes laws profile p can code had old new r c here added left paid keeps behind pen stores first start all joining =
    let now : TerminalState = joining.now in
    let next : TerminalState = record { grid = grid_with now.grid r c (record { character = code; pen = now.pen }); spot = spot_after profile.columns r c; pen = now.pen } in
    let run : runs profile now (put_of code ∷ []) ≡ Some next = one_run profile now next (put_of code) had (can.put_acts now code ∙ ap (written_at profile.columns now code) (joining.spot ∙ here)) in
    led laws profile p stores first start all old new (put_of code ∷ []) (put_of code ∷ []) next.spot old.pen next
    (record { keeps = keeps; ops = added; left = left; bytes = λ _. paid ∙ ap (λ n. counted_up (old.bytes + n)) (sym (put_price profile code)); spot_is = behind; pen_is = pen }) joining
    (busy_becomes profile now next (put_of code ∷ []) run (put_stays profile code now)) refl joining.pen

-- the rest of a line is erased
pub erase_goes : RunLaws → (profile : ProfileView) → IsProfile profile → has profile EraseLine ≡ true → (old new : Draft) (r c : ℕ) → old.spot ≡ At r c → is_plain_pen old.pen ≡ true
    → IsAdded profile old new (EraseLine ∷ []) (At r c) old.pen → Continues profile old new (EraseLine ∷ [])
erase_goes laws profile p had old new r c here plain added stores first start all joining =
    let now : TerminalState = joining.now in
    let next : TerminalState = erased profile.rows profile.columns (is_in_run r c profile.columns) now in
    let run : runs profile now (EraseLine ∷ []) ≡ Some next = one_run profile now next EraseLine had (erases_line profile now r c (joining.spot ∙ here) (ap is_plain_pen joining.pen ∙ plain)) in
    led laws profile p stores first start all old new (EraseLine ∷ []) (EraseLine ∷ []) (At r c) old.pen next added joining
    (busy_becomes profile now next (EraseLine ∷ []) run (busy profile now EraseLine (λ s. refl) [] (λ s. refl))) (joining.spot ∙ here) joining.pen

-- the cursor where it is wished
pub cursor_goes : RunLaws → ProfilesHave → (profile : ProfileView) → IsProfile profile → (place : ℕ × ℕ) → IsPlace profile.rows profile.columns place → (old new : Draft) → is_plain_pen old.pen ≡ true
    → IsAdded profile old new (moves_unless_there old.spot place) (At place.0 place.1) old.pen → Continues profile old new (Move place.0 place.1 ∷ [])
cursor_goes laws have profile p place inside old new plain added stores first start all joining =
    led laws profile p stores first start all old new (Move place.0 place.1 ∷ []) (moves_unless_there old.spot place) (At place.0 place.1) old.pen (at_place joining.now place) added joining
    (subst (λ spot. Becomes profile joining.now (at_place joining.now place) (Move place.0 place.1 ∷ []) (moves_unless_there spot place)) joining.spot
    (move_becomes profile (have profile p) joining.now place inside (ap (λ b. profile.msgr || b) (ap is_plain_pen joining.pen ∙ plain) ∙ or-true profile.msgr))) refl joining.pen

-- nothing more
pub nothing_goes : (profile : ProfileView) (old : Draft) → Continues profile old old []
nothing_goes profile old stores first start all joining = subst (λ ops. IsJoining profile stores first start ops old) (sym (append-nil all)) joining

-- one part and then another
pub goes_on : (profile : ProfileView) (old mid new : Draft) (xs ys : List Op) → Continues profile old mid xs → Continues profile mid new ys → Continues profile old new (xs ++ ys)
goes_on profile old mid new xs ys one other stores first start all joining = grind (arith, append_assoc)

-- what comes after is not counted yet
pub counts_less : RunLaws → (profile : ProfileView) (old new : Draft) (xs ys more : List Op) → Continues profile old new xs → more ≡ xs ++ ys → CountsAtMost profile old new more
counts_less laws profile old new xs ys more goes is stores first start all joining =
    let now = goes stores first start all joining in
    let cut : without_idle profile start (all ++ more) ≡ without_idle profile start (all ++ xs) ++ without_idle profile now.now ys =
    ap (λ ops. without_idle profile start (all ++ ops)) is ∙ ap (without_idle profile start) (sym (append_assoc all xs ys)) ∙ idle_joined profile start now.now (all ++ xs) ys now.run in
    let sum : price profile (without_idle profile start (all ++ more)) ≡ price profile (without_idle profile start (all ++ xs)) + price profile (without_idle profile now.now ys) =
    ap (price profile) cut ∙ (price_is laws profile).joined (without_idle profile start (all ++ xs)) (without_idle profile now.now ys) in
    (omega (arith, now.bytes, sum), now.left)

-- ---- what begins a repaint

-- no attribute on and default colours are shown by each terminal
plain_shown : (profile : ProfileView) → IsShownPen (abilities profile) plain_pen
plain_shown profile = grind (arith, and_le_r)

-- a state of the emulated terminal is one of the profile when no attribute is on
plain_state : (profile : ProfileView) (state : TerminalState) → IsState (full_abilities Utf8 profile.rows profile.columns) state → IsState (abilities profile) (plain state)
plain_state profile state is = record { whole = is.whole; looks = is.looks; spot = is.spot; pen = plain_shown profile }

-- attributes are turned off where they can be, or where none is on
first_resets : (profile : ProfileView) → HasLaws profile → (state : TerminalState) → (is_there profile Sgr0 ≡ true) ⊎ (is_plain_pen state.pen ≡ true)
    → Becomes profile state (plain state) (resets profile) (resets_unless_plain (painter_of profile) state.pen)
first_resets profile can state may = grind arith

pub begun_joining : RunLaws → ProfilesHave → (profile : ProfileView) → IsProfile profile → (painter : Painter) → painter ≡ painter_of profile → (memory : MemoryView) → IsMemory memory → memory.rows ≡ profile.rows → memory.columns ≡ profile.columns
    → (is_there profile Sgr0 ≡ true) ⊎ (is_plain_pen memory.state.pen ≡ true) → (first : List Op) (mid joining : Draft) (begun : ℕ) (spot : Spot) (pen : PenView) → begun ≡ length first → mid.ops.items ≡ first ++ resets_unless_plain painter memory.state.pen → mid.bytes ≡ 0
    → spot ≡ memory.state.spot → pen ≡ plain_pen → IsCounted profile mid joining begun spot pen → IsJoining profile mid.keeps first memory.state (resets profile) joining
begun_joining laws have profile p painter who memory is rows columns may first mid joining begun spot pen at made none there plainly counted = search (arith, first_resets, drop-append_seam, take-append_seam, plain, plain_state, price)

-- attributes can be turned off where one may be on
pub may_reset : (profile : ProfileView) → HasLaws profile → (pen : PenView) → IsShownPen (abilities profile) pen → (is_there profile Sgr0 ≡ true) ⊎ (is_plain_pen pen ≡ true)
may_reset profile can pen shown = may_by (is_there profile Sgr0) refl
  where
    may_by : (b : Bool) → is_there profile Sgr0 ≡ b → (is_there profile Sgr0 ≡ true) ⊎ (is_plain_pen pen ≡ true)
    may_by b is = grind arith
