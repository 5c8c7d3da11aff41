-- A session goes on from call to call.
use Rattle.std.proofs.Common.{◌≡◌, ℕ, ◌+◌, ◌≤◌, ◌<◌, ◌⊎◌, ◌&&◌, not, Bool, true, false, refl, sym, ◌∙◌, ap, subst, arith, List, [], ◌∷◌, ◌++◌, append_assoc, length, take, get_or, Option, None, Some, is_some, zero, suc, inl, inr, if◌then◌else◌}
use Rattle.std.specs.List.{list_all}
use Rattle.std.proofs.lemmas.List.{append-nil, get_or_append_left, length-append, length-take-le, take-append-le, take_all, take_more}
use Rattle.std.proofs.lemmas.Grind.{flat_map-append}
use Rattle.scr_cells.specs.PictureViews.{PictureView}
use Rattle.scr_term.specs.declared.operations.operation.Op.{Op}
use Rattle.scr_term.specs.Ecma.Meanings.{Leads}
use Rattle.scr_term.specs.Operations.Laws.{BytesActAsTheirOperations, RunLaws}
use Rattle.scr_term.specs.Operations.Painted.{Shows}
use Rattle.scr_term.specs.Operations.Profiles.{ProfileView, IsProfile, abilities}
use Rattle.scr_term.specs.Operations.States.{TerminalState, IsState, negative_state}
use Rattle.scr_term.specs.Operations.Steps.{runs}
use Rattle.scr_term.specs.Operations.Texts.{all_bytes}
use Rattle.scr_memory.specs.Memories.{Agrees, MayBe, MemoryView, is_known, remembered}
use Rattle.scr_memory.specs.MemoryRuns.{KnownMemories, MemoryRuns}
use Rattle.scr_plan.specs.Plans.{IsPlan, PlanIsCheap}
use Rattle.scr_plan.specs.Repaints.{joined_of}
use Rattle.scr_plan.specs.Scratch.{RunsToShow}
use Rattle.screen_sessions.specs.declared.answers.Answer.{Answer}
use Rattle.screen_sessions.specs.declared.answers.Answer.TheVariants.{Added, Failed, Made, Nothing, Pair, Refused, Seen, Sent, Touched}
use Rattle.screen_calls.specs.declared.calls.Call.{Call}
use Rattle.screen_calls.specs.declared.calls.Call.TheVariants.{Doupdate}
use Rattle.screen_sessions.specs.Code.Progress.{AreMadeAfresh, IsFresh, Reached, SoFar}
use Rattle.screen_sessions.specs.Making.{IsMade, drawn_of}
use Rattle.curses.specs.ScreenStates.{ScreenState}
use Rattle.curses.specs.declared.faults.UpdateFault.TheVariants as update_faults
use Rattle.curses.specs.declared.faults.UpdateFault.TheVariants.{Flush, Write}
use Rattle.screen_sessions.specs.declared.sessions.Report.{Report}
use Rattle.screen_sessions.specs.Sessions.{AreMade, Beginning, Drawn, IsAnswer, IsCheap, IsKnownAt, IsKnownSince, IsSession, MayBegin, Moment, OwesNothing, after_call, after_calls, begun_in, begun_of, beginning_of, count_in, count_of, counted_in, drawn_at, ended_well, finishes_after, finishes_in, forgets, is_cut, is_update, last_ok_after, marked_by, memory_marked, memory_then, memory_updated, remembered_at, remembered_after, tells_sent}
use Rattle.curses.specs.Updates.{IsOfOneText, IsSent}
use Rattle.curses.specs.Writers.{Finishes, WriterView, counted}
use Rattle.screen_sessions.proofs.TakenLaws.{appends_more, appends_none, one_after}

-- ---- lists

-- a place below the end is before the last, or the last
before_or_last : (i k : ℕ) → i < k + 1 → (i < k) ⊎ (i ≡ k)
before_or_last zero zero h = inr refl
before_or_last zero (suc k) h = inl (omega arith)
before_or_last (suc i) zero h = absurd (omega (arith, h))
before_or_last (suc i) (suc k) h = further (before_or_last i k (omega (arith, h)))
  where
    further : (i < k) ⊎ (i ≡ k) → (suc i < suc k) ⊎ (suc i ≡ suc k)
    further (inl l) = inl (omega (arith, l))
    further (inr e) = inr (ap suc e)

-- the first elements of a list with one more
first_of : {A : Type 0} → (n : ℕ) (xs : List A) (x : A) → n ≤ length xs → take n (xs ++ x ∷ []) ≡ take n xs
first_of n xs x few = take-append-le n xs (x ∷ []) few

-- a place at most one past the end
least_or_last : (i k : ℕ) → i ≤ k + 1 → (i ≤ k) ⊎ (i ≡ k + 1)
least_or_last i k few = by (before_or_last i (k + 1) (omega (arith, few)))
  where
    by : (i < k + 1) ⊎ (i ≡ k + 1) → (i ≤ k) ⊎ (i ≡ k + 1)
    by (inl l) = inl (omega (arith, l))
    by (inr e) = inr e

all_of : {A : Type 0} → (xs : List A) (x : A) → take (length xs + 1) (xs ++ x ∷ []) ≡ xs ++ x ∷ []
all_of xs x = take_all (length xs + 1) (xs ++ x ∷ []) (omega (arith, length-append xs (x ∷ [])))

last_of : {A : Type 0} → (xs : List A) (x d : A) → get_or (xs ++ x ∷ []) (length xs) d ≡ x
last_of [] x d = refl
last_of (y ∷ xs) x d = last_of xs x d

-- what holds of all of a list holds of its beginning and of its last
both_hold : (a b : Bool) → (a && b) ≡ true → (a ≡ true) × (b ≡ true)
both_hold true true e = (refl, refl)
both_hold true false e = absurd (never e)
  where
    never : false ≡ true → ⊥
    never f = (cc)
both_hold false b e = absurd (never e)
  where
    never : false ≡ true → ⊥
    never f = (cc)

all_but_last : {A : Type 0} → (is : A → Bool) (xs : List A) (x : A) → list_all is (xs ++ x ∷ []) ≡ true → list_all is xs ≡ true
all_but_last is [] x e = refl
all_but_last is (y ∷ xs) x e =
    let parts = both_hold (is y) (list_all is (xs ++ x ∷ [])) e in
    ap (λ b. b && list_all is xs) parts.0 ∙ all_but_last is xs x parts.1

the_last : {A : Type 0} → (is : A → Bool) (xs : List A) (x : A) → list_all is (xs ++ x ∷ []) ≡ true → is x ≡ true
the_last is [] x e = (both_hold (is x) true e).0
the_last is (y ∷ xs) x e = the_last is xs x (both_hold (is y) (list_all is (xs ++ x ∷ [])) e).1

-- ---- the fold

-- one call more
pub after_calls_more : (drawn : Drawn) (calls : List Call) (answers : List Answer) (call : Call) (answer : Answer) → length calls ≡ length answers
    → after_calls drawn (calls ++ call ∷ []) (answers ++ answer ∷ []) ≡ after_call (after_calls drawn calls answers) call answer
after_calls_more drawn [] [] call answer same = refl
after_calls_more drawn [] (a ∷ answers) call answer same = absurd (omega (arith, same))
after_calls_more drawn (c ∷ calls) [] call answer same = absurd (omega (arith, same))
after_calls_more drawn (c ∷ calls) (a ∷ answers) call answer same = after_calls_more (after_call drawn c a) calls answers call answer (omega (arith, same))

-- what is remembered
remembered_more : (profile : ProfileView) (drawn : Drawn) (memory : MemoryView) (calls : List Call) (answers : List Answer) (call : Call) (answer : Answer) → length calls ≡ length answers
    → remembered_after profile drawn memory (calls ++ call ∷ []) (answers ++ answer ∷ []) ≡ memory_then profile (after_calls drawn calls answers).desk (remembered_after profile drawn memory calls answers) call answer
remembered_more profile drawn memory [] [] call answer same = refl
remembered_more profile drawn memory [] (a ∷ answers) call answer same = absurd (omega (arith, same))
remembered_more profile drawn memory (c ∷ calls) [] call answer same = absurd (omega (arith, same))
remembered_more profile drawn memory (c ∷ calls) (a ∷ answers) call answer same =
    remembered_more profile (after_call drawn c a) (memory_then profile drawn.desk memory c a) calls answers call answer (omega (arith, same))

-- ---- counts

count_more : (answers : List Answer) (answer : Answer) → count_in (answers ++ answer ∷ []) ≡ count_in answers + count_of answer
count_more [] answer = omega arith
count_more (a ∷ answers) answer = omega (arith, count_more answers answer)

count_part : (n : ℕ) (answers : List Answer) → count_in (take n answers) ≤ count_in answers
count_part zero answers = omega arith
count_part (suc n) [] = omega arith
count_part (suc n) (a ∷ answers) = omega (arith, count_part n answers)

begun_more : (answers : List Answer) (answer : Answer) → begun_in (answers ++ answer ∷ []) ≡ begun_in answers ++ begun_of answer
begun_more answers answer = flat_map-append begun_of answers (answer ∷ []) ∙ ap (λ t. begun_in answers ++ t) (append-nil (begun_of answer))

counted_more : (kind : Answer → Bool) (answers : List Answer) (answer : Answer) (count : ℕ) → counted_in kind (answers ++ answer ∷ []) count ≡ counted (kind answer) (counted_in kind answers count)
counted_more kind [] answer count = refl
counted_more kind (a ∷ answers) answer count = counted_more kind answers answer (counted (kind a) count)

finishes_more : (answers : List Answer) (answer : Answer) (finishes : Finishes) → finishes_in (answers ++ answer ∷ []) finishes ≡ finishes_after answer (finishes_in answers finishes)
finishes_more [] answer finishes = refl
finishes_more (a ∷ answers) answer finishes = finishes_more answers answer (finishes_after a finishes)

-- ---- one call more

none_left : (bytes : List ℕ) → length bytes ≡ 0 → bytes ≡ []
none_left [] none = refl
none_left (b ∷ bytes) none = absurd (omega (arith, none))

-- a state that is as was remembered is, after these operations, as is remembered then
abbrev GoesOn : ProfileView → MemoryView → MemoryView → List Op → Type 0
GoesOn profile old new ops = (state next : TerminalState) → Agrees (abilities profile) old state → runs profile state ops ≡ Some next → Agrees (abilities profile) new next

reached_more : {w v : WriterView} {owed rest : List ℕ} {count : ℕ} → RunLaws → (profile : ProfileView) (m n : MemoryView) (opened : TerminalState) (begun more : List Op) → Reached profile m opened begun → IsSent profile m owed w v more count rest
    → GoesOn profile m n more → Reached profile n opened (begun ++ more)
reached_more laws profile m n opened begun more is sent agrees =
    let next = sent.defined is.now is.agrees in
    record {
      now = next.new;
      run = laws.joined profile opened is.now begun more is.run ∙ next.run;
      agrees = agrees is.now next.new is.agrees next.run;
    }

true_not_false : true ≡ false → ⊥
true_not_false e = (cc)

some_same : (a b : TerminalState) → Some a ≡ Some b → a ≡ b
some_same a b e = (cc)

not_false : (b : Bool) → not b ≡ true → b ≡ false
not_false false e = refl
not_false true e = absurd (never e)
  where
    never : false ≡ true → ⊥
    never f = (cc)

-- ---- what is known

-- an update that changes nothing of it, or a call that marks nothing
same_memory : (update : Bool) (memory updated : MemoryView) (rows : Option (ℕ × ℕ)) → updated ≡ memory → is_some rows ≡ false → (if update then updated else memory_marked memory rows) ≡ memory
same_memory true memory updated rows same none = same
same_memory false memory updated None same none = refl
same_memory false memory updated (Some rows) same none = absurd (never none)
  where
    never : true ≡ false → ⊥
    never e = (cc)

-- a call that begins nothing, and forgets nothing
stays : (old new : ScreenState) (call : Call) (answer : Answer) (w v : WriterView) → IsMade old new call answer w v → begun_of answer ≡ [] → memory_updated old.profile old.memory answer ≡ old.memory → is_some (marked_by old.desk call) ≡ false
    → is_known old.memory ≡ true → old.owed ≡ [] → (is_known new.memory ≡ true) × (new.owed ≡ [])
stays old new call answer w v made begun updated marks known nothing =
    let text : length (old.owed ++ all_bytes old.profile (begun_of answer)) ≡ 0 =
    ap (λ o. length (o ++ all_bytes old.profile (begun_of answer))) nothing ∙ ap (λ ops. length (all_bytes old.profile ops)) begun in (
      ap is_known (made.memory ∙ same_memory (is_update call) old.memory (memory_updated old.profile old.memory answer) (marked_by old.desk call) updated marks) ∙ known,
      none_left new.owed (omega (arith, text, ap length made.sent.cut.whole, length-append made.sent.cut.taken new.owed)),
    )

-- where all was known and nothing owed, so it is after a call, unless it forgets
stays_known : (old new : ScreenState) (call : Call) (answer : Answer) (w v : WriterView) → IsMade old new call answer w v → forgets old.desk call answer ≡ false → is_known old.memory ≡ true → old.owed ≡ []
    → (is_known new.memory ≡ true) × (new.owed ≡ [])
stays_known old new call (Sent sent) w v made kept known nothing = ((made.well refl).known, (made.well refl).nothing)
stays_known old new call (Failed (Write begun sent kind)) w v made kept known nothing = absurd (true_not_false kept)
stays_known old new call (Failed (Flush begun sent kind)) w v made kept known nothing = absurd (true_not_false kept)
stays_known old new call (Failed update_faults.NoMemory) w v made kept known nothing = stays old new call _ w v made refl refl kept known nothing
stays_known old new call Nothing w v made kept known nothing = stays old new call _ w v made refl refl kept known nothing
stays_known old new call (Made win) w v made kept known nothing = stays old new call _ w v made refl refl kept known nothing
stays_known old new call (Added all) w v made kept known nothing = stays old new call _ w v made refl refl kept known nothing
stays_known old new call (Seen cell) w v made kept known nothing = stays old new call _ w v made refl refl kept known nothing
stays_known old new call (Pair a b) w v made kept known nothing = stays old new call _ w v made refl refl kept known nothing
stays_known old new call (Touched touched) w v made kept known nothing = stays old new call _ w v made refl refl kept known nothing
stays_known old new call (Refused fault) w v made kept known nothing = stays old new call _ w v made refl refl kept known nothing

-- right after a call
moment_now : BytesActAsTheirOperations → (profile : ProfileView) (opened now : TerminalState) (before : List ℕ) (begun : List Op) (taken owed : List ℕ) (picture : PictureView) (well : Bool) → IsState (abilities profile) opened
    → runs profile opened begun ≡ Some now → taken ++ owed ≡ before ++ all_bytes profile begun → IsOfOneText profile before begun owed → (well ≡ true → Shows (abilities profile) now picture) → (well ≡ true → owed ≡ [])
    → Moment profile opened before picture begun taken well
moment_now acts profile opened now before begun taken owed picture well state run bytes one shows nothing = record {
  now = now;
  run = run;
  owed = owed;
  bytes = bytes;
  one = one;
  showing = λ sent. record {
    nothing = nothing sent;
    shows = shows sent;
    leads = λ none bundled. subst (λ text. Leads profile.charset profile.rows profile.columns (negative_state opened) text (negative_state now))
        (sym (sym (append-nil taken) ∙ sym (ap (λ o. taken ++ o) (nothing sent)) ∙ bytes ∙ ap (λ b. b ++ all_bytes profile begun) none)) (acts profile bundled opened now state begun run);
  };
}

-- an update that ended well shows the picture
shows_now : (profile : ProfileView) (old new : TerminalState) (more : List Op) (picture : PictureView) → runs profile old more ≡ Some new → RunsToShow profile old more picture → Shows (abilities profile) new picture
shows_now profile old new more picture run shown = subst (λ s. Shows (abilities profile) s picture) (some_same shown.new new (sym shown.run ∙ run)) shown.shows

pub one_more : RunLaws → BytesActAsTheirOperations → KnownMemories → PlanIsCheap → (profile : ProfileView) (first : Beginning) (begun : ScreenState) (calls : List Call) (answers : List Answer) (call : Call) (answer : Answer) (old new : ScreenState) (before mid after : WriterView)
    → length answers < length calls → get_or calls (length answers) Doupdate ≡ call → SoFar profile first begun calls answers old before mid → IsMade old new call answer mid after
    → SoFar profile first begun calls (answers ++ answer ∷ []) new before after
one_more laws acts remembers cheap profile first begun calls answers call answer old new before mid after inside here is made = record {
  same = made.profile ∙ is.same;
  keys = made.keys ∙ is.keys;
  opening = made.opening ∙ is.opening;
  closing = made.closing ∙ is.closing;
  drawn = made.drawn ∙ ap (λ d. after_call d call answer) is.drawn ∙ sym whole ∙ ap (drawn_at first calls (answers ++ answer ∷ [])) (sym more);
  memory = memory_now;
  taken = is.taken ++ sent.cut.taken;
  writer = appends_more before.taken mid.taken after.taken is.taken sent.cut.taken is.writer sent.cut.writer;
  counted_all = counts;
  puts = made.puts ∙ ap (counted (is_cut answer)) is.puts ∙ sym (counted_more is_cut answers answer before.failed_puts);
  finishes = made.finishes ∙ ap (finishes_after answer) is.finishes ∙ sym (finishes_more answers answer before.finishes);
  right = λ i few. right_at i (before_or_last i (length answers) (omega (arith, few, more)));
  bytes = bytes_now;
  one = one_now;
  quiet = quiet_now;
  known = λ j i few since. known_at j i (least_or_last i (length answers) (omega (arith, few, more))) since;
  holds = λ n opened few begin. record {
    moments = λ i from until. moment_at n opened begin i from (before_or_last i (length answers) (omega (arith, until, more)));
    cheap = λ j i from until since. cheap_at n opened begin i from (before_or_last i (length answers) (omega (arith, until, more))) (known_at j i (inl (omega (arith, until, more))) since);
    cheap_where_known = λ i from until. cheap_at n opened begin i from (before_or_last i (length answers) (omega (arith, until, more)));
  };
  reached = λ n opened few begin. reached_at n opened begin (before_or_last n (length answers + 1) (omega (arith, few, more)));
}
  where
    more : length (answers ++ answer ∷ []) ≡ length answers + 1
    more = length-append answers (answer ∷ [])

    sent : IsSent profile old.memory old.owed mid after (begun_of answer) (count_of answer) new.owed
    sent = subst (λ p. IsSent p old.memory old.owed mid after (begun_of answer) (count_of answer) new.owed) is.same made.sent

    goes_on : GoesOn profile old.memory new.memory (begun_of answer)
    goes_on = subst (λ p. GoesOn p old.memory new.memory (begun_of answer)) is.same made.agrees

    counts : count_in (answers ++ answer ∷ []) ≡ length (is.taken ++ sent.cut.taken)
    counts = omega (arith, count_more answers answer, is.counted_all, sent.cut.bytes, length-append is.taken sent.cut.taken)

    one_call_more : take (length answers + 1) calls ≡ take (length answers) calls ++ call ∷ []
    one_call_more = take_more calls (length answers) Doupdate inside ∙ ap (λ c. take (length answers) calls ++ c ∷ []) here

    as_many : length (take (length answers) calls) ≡ length answers
    as_many = length-take-le (length answers) calls (omega (arith, inside))

    all_answers : take (length answers) answers ≡ answers
    all_answers = take_all (length answers) answers (omega arith)

    -- the fold after all these calls
    whole : drawn_at first calls (answers ++ answer ∷ []) (length answers + 1) ≡ after_call (drawn_at first calls answers (length answers)) call answer
    whole =
        ap (λ c. after_calls first.drawn c (take (length answers + 1) (answers ++ answer ∷ []))) one_call_more
        ∙ ap (after_calls first.drawn (take (length answers) calls ++ call ∷ [])) (all_of answers answer)
        ∙ after_calls_more first.drawn (take (length answers) calls) answers call answer as_many
        ∙ ap (λ a. after_call (after_calls first.drawn (take (length answers) calls) a) call answer) (sym all_answers)

    whole_memory : remembered_at profile first calls (answers ++ answer ∷ []) (length answers + 1)
        ≡ memory_then profile (drawn_at first calls answers (length answers)).desk (remembered_at profile first calls answers (length answers)) call answer
    whole_memory =
        ap (λ c. remembered_after profile first.drawn first.memory c (take (length answers + 1) (answers ++ answer ∷ []))) one_call_more
        ∙ ap (remembered_after profile first.drawn first.memory (take (length answers) calls ++ call ∷ [])) (all_of answers answer)
        ∙ remembered_more profile first.drawn first.memory (take (length answers) calls) answers call answer as_many
        ∙ ap (λ a. memory_then profile (after_calls first.drawn (take (length answers) calls) a).desk (remembered_after profile first.drawn first.memory (take (length answers) calls) a) call answer) (sym all_answers)

    memory_now : new.memory ≡ remembered_at profile first calls (answers ++ answer ∷ []) (length (answers ++ answer ∷ []))
    memory_now =
        made.memory ∙ ap (λ p. memory_then p old.desk old.memory call answer) is.same ∙ ap (λ d. memory_then profile d.desk old.memory call answer) is.drawn
        ∙ ap (λ m. memory_then profile (drawn_at first calls answers (length answers)).desk m call answer) is.memory ∙ sym whole_memory
        ∙ ap (remembered_at profile first calls (answers ++ answer ∷ [])) (sym more)

    -- the fold after fewer
    part : (i : ℕ) → i ≤ length answers → drawn_at first calls (answers ++ answer ∷ []) i ≡ drawn_at first calls answers i
    part i few = ap (after_calls first.drawn (take i calls)) (first_of i answers answer few)

    part_memory : (i : ℕ) → i ≤ length answers → remembered_at profile first calls (answers ++ answer ∷ []) i ≡ remembered_at profile first calls answers i
    part_memory i few = ap (remembered_after profile first.drawn first.memory (take i calls)) (first_of i answers answer few)

    right_at : (i : ℕ) → (i < length answers) ⊎ (i ≡ length answers)
        → IsAnswer profile (remembered_at profile first calls (answers ++ answer ∷ []) i) (drawn_at first calls (answers ++ answer ∷ []) i) (get_or calls i Doupdate) (get_or (answers ++ answer ∷ []) i Nothing)
    right_at i (inl l) =
        subst (λ a. IsAnswer profile (remembered_at profile first calls (answers ++ answer ∷ []) i) (drawn_at first calls (answers ++ answer ∷ []) i) (get_or calls i Doupdate) a) (sym (get_or_append_left answers (answer ∷ []) Nothing i l))
        (subst (λ d. IsAnswer profile (remembered_at profile first calls (answers ++ answer ∷ []) i) d (get_or calls i Doupdate) (get_or answers i Nothing)) (sym (part i (omega (arith, l))))
        (subst (λ m. IsAnswer profile m (drawn_at first calls answers i) (get_or calls i Doupdate) (get_or answers i Nothing)) (sym (part_memory i (omega (arith, l)))) (is.right i l)))
    right_at i (inr e) =
        subst (λ n. IsAnswer profile (remembered_at profile first calls (answers ++ answer ∷ []) n) (drawn_at first calls (answers ++ answer ∷ []) n) (get_or calls n Doupdate) (get_or (answers ++ answer ∷ []) n Nothing)) (sym e)
        (subst (λ a. IsAnswer profile (remembered_at profile first calls (answers ++ answer ∷ []) (length answers)) (drawn_at first calls (answers ++ answer ∷ []) (length answers)) (get_or calls (length answers) Doupdate) a)
        (sym (last_of answers answer Nothing))
        (subst (λ m. IsAnswer profile m (drawn_at first calls (answers ++ answer ∷ []) (length answers)) (get_or calls (length answers) Doupdate) answer) (is.memory ∙ sym (part_memory (length answers) (omega arith)))
        (subst (λ d. IsAnswer profile old.memory d (get_or calls (length answers) Doupdate) answer) (is.drawn ∙ sym (part (length answers) (omega arith)))
        (subst (λ c. IsAnswer profile old.memory (drawn_of old) c answer) (sym here)
        (subst (λ p. IsAnswer p old.memory (drawn_of old) call answer) is.same made.right)))))

    bytes_now : (is.taken ++ sent.cut.taken) ++ new.owed ≡ first.owed ++ all_bytes profile (begun_in (answers ++ answer ∷ []))
    bytes_now =
        append_assoc is.taken sent.cut.taken new.owed ∙ ap (λ t. is.taken ++ t) (sym sent.cut.whole) ∙ sym (append_assoc is.taken old.owed (all_bytes profile (begun_of answer)))
        ∙ ap (λ t. t ++ all_bytes profile (begun_of answer)) is.bytes ∙ append_assoc first.owed (all_bytes profile (begun_in answers)) (all_bytes profile (begun_of answer))
        ∙ ap (λ t. first.owed ++ t) (sym (laws.bytes profile (begun_in answers) (begun_of answer)) ∙ ap (all_bytes profile) (sym (begun_more answers answer)))

    one_now : IsOfOneText profile first.owed (begun_in (answers ++ answer ∷ [])) new.owed
    one_now =
        subst (λ b. IsOfOneText profile first.owed b new.owed) (sym (begun_more answers answer))
        (one_after profile first.owed old.owed (begun_in answers) (begun_of answer) new.owed is.one sent.one)

    -- no update so far, and none now
    quiet_calls : list_all (λ call. not (is_update call)) (take (length answers + 1) calls) ≡ true → list_all (λ call. not (is_update call)) (take (length answers) calls ++ call ∷ []) ≡ true
    quiet_calls none = ap (list_all (λ call. not (is_update call))) (sym one_call_more) ∙ none

    quiet_now : list_all (λ call. not (is_update call)) (take (length (answers ++ answer ∷ [])) calls) ≡ true → begun_in (answers ++ answer ∷ []) ≡ []
    quiet_now none =
        let calls_now = quiet_calls (ap (λ n. list_all (λ call. not (is_update call)) (take n calls)) (sym more) ∙ none) in
        begun_more answers answer ∙ ap (λ b. b ++ begun_of answer) (is.quiet (all_but_last (λ call. not (is_update call)) (take (length answers) calls) call calls_now))
        ∙ made.quiet (not_false (is_update call) (the_last (λ call. not (is_update call)) (take (length answers) calls) call calls_now))

    begin_before : (n : ℕ) (opened : TerminalState) → n ≤ length answers → MayBegin profile first calls (answers ++ answer ∷ []) n opened → MayBegin profile first calls answers n opened
    begin_before n opened few begin = record { quiet = begin.quiet; agrees = subst (λ m. Agrees (abilities profile) m opened) (part_memory n few) begin.agrees }

    reached_then : (opened : TerminalState) → Reached profile old.memory opened (begun_in answers) → Reached profile new.memory opened (begun_in (answers ++ answer ∷ []))
    reached_then opened old_reached =
        subst (Reached profile new.memory opened) (sym (begun_more answers answer)) (reached_more laws profile old.memory new.memory opened (begun_in answers) (begun_of answer) old_reached sent goes_on)

    reached_at : (n : ℕ) (opened : TerminalState) → MayBegin profile first calls (answers ++ answer ∷ []) n opened → (n < length answers + 1) ⊎ (n ≡ length answers + 1)
        → Reached profile new.memory opened (begun_in (answers ++ answer ∷ []))
    reached_at n opened begin (inl l) = reached_then opened (is.reached n opened (omega (arith, l)) (begin_before n opened (omega (arith, l)) begin))
    reached_at n opened begin (inr e) =
        let all : n ≡ length (answers ++ answer ∷ []) = e ∙ sym more in
        let none : begun_in (answers ++ answer ∷ []) ≡ [] = quiet_now (ap (λ k. list_all (λ call. not (is_update call)) (take k calls)) (sym all) ∙ begin.quiet) in
        record {
          now = opened;
          run = ap (runs profile opened) none;
          agrees = subst (λ m. Agrees (abilities profile) m opened) (ap (remembered_at profile first calls (answers ++ answer ∷ [])) all ∙ sym memory_now) begin.agrees;
        }

    -- where the writer accepted all, nothing is owed
    all_taken : OwesNothing profile first answers → old.owed ≡ []
    all_taken nothing =
        none_left old.owed (omega (arith, nothing, is.counted_all, length-append is.taken old.owed, ap length is.bytes, length-append first.owed (all_bytes profile (begun_in answers))))

    -- all is still known before this call, and so after it, unless it forgets
    since_before : (j i : ℕ) → i ≤ length answers → j < i → ((k : ℕ) → j < k → k < i → forgets (drawn_at first calls (answers ++ answer ∷ []) k).desk (get_or calls k Doupdate) (get_or (answers ++ answer ∷ []) k Nothing) ≡ false)
        → tells_sent (get_or (answers ++ answer ∷ []) j Nothing) ≡ true → IsKnownSince first calls answers j i
    since_before j i few l kept well = record {
      before = l;
      well = sym (ap tells_sent (get_or_append_left answers (answer ∷ []) Nothing j (omega (arith, few, l)))) ∙ well;
      kept = λ k after until.
          sym (ap (forgets (drawn_at first calls answers k).desk (get_or calls k Doupdate)) (get_or_append_left answers (answer ∷ []) Nothing k (omega (arith, few, until))))
          ∙ sym (ap (λ d. forgets d.desk (get_or calls k Doupdate) (get_or (answers ++ answer ∷ []) k Nothing)) (part k (omega (arith, few, until)))) ∙ kept k after until;
    }

    known_now : (is_known new.memory ≡ true) × (new.owed ≡ []) → IsKnownAt profile first calls (answers ++ answer ∷ []) (length answers + 1)
    known_now held = record {
      all = ap (λ n. is_known (remembered_at profile first calls (answers ++ answer ∷ []) n)) (sym more) ∙ sym (ap is_known memory_now) ∙ held.0;
      nothing = subst (OwesNothing profile first) (sym (all_of answers answer))
          (let all = ap length (sym (append-nil (is.taken ++ sent.cut.taken)) ∙ sym (ap (λ o. (is.taken ++ sent.cut.taken) ++ o) held.1) ∙ bytes_now) in
          counts ∙ all ∙ length-append first.owed (all_bytes profile (begun_in (answers ++ answer ∷ []))));
    }

    last_forgets : (j : ℕ) → j < length answers → IsKnownSince first calls (answers ++ answer ∷ []) j (length answers + 1) → forgets old.desk call answer ≡ false
    last_forgets j l since =
        ap (λ d. forgets d.desk call answer) (is.drawn ∙ sym (part (length answers) (omega arith))) ∙ sym (ap (λ c. forgets (drawn_at first calls (answers ++ answer ∷ []) (length answers)).desk c answer) here)
        ∙ sym (ap (forgets (drawn_at first calls (answers ++ answer ∷ []) (length answers)).desk (get_or calls (length answers) Doupdate)) (last_of answers answer Nothing)) ∙ since.kept (length answers) l (omega arith)

    known_last : (j : ℕ) → (j < length answers) ⊎ (j ≡ length answers) → IsKnownSince first calls (answers ++ answer ∷ []) j (length answers + 1) → IsKnownAt profile first calls (answers ++ answer ∷ []) (length answers + 1)
    known_last j (inl l) since =
        let known = is.known j (length answers) (omega arith) (since_before j (length answers) (omega arith) l (λ k after until. since.kept k after (omega (arith, until))) since.well) in
        known_now (stays_known old new call answer mid after made (last_forgets j l since) (ap is_known is.memory ∙ known.all) (all_taken (subst (OwesNothing profile first) all_answers known.nothing)))
    known_last j (inr e) since =
        let well : tells_sent answer ≡ true = sym (ap tells_sent (last_of answers answer Nothing)) ∙ sym (ap (λ n. tells_sent (get_or (answers ++ answer ∷ []) n Nothing)) e) ∙ since.well in
        known_now ((made.well well).known, (made.well well).nothing)

    known_at : (j i : ℕ) → (i ≤ length answers) ⊎ (i ≡ length answers + 1) → IsKnownSince first calls (answers ++ answer ∷ []) j i → IsKnownAt profile first calls (answers ++ answer ∷ []) i
    known_at j i (inl few) since =
        let known = is.known j i few (since_before j i few since.before since.kept since.well) in
        record {
          all = ap is_known (part_memory i few) ∙ known.all;
          nothing = subst (OwesNothing profile first) (sym (first_of i answers answer few)) known.nothing;
        }
    known_at j i (inr e) since =
        let last = subst (IsKnownSince first calls (answers ++ answer ∷ []) j) e since in
        subst (IsKnownAt profile first calls (answers ++ answer ∷ [])) (sym e) (known_last j (before_or_last j (length answers) last.before) last)

    -- an update that ended well, of a screen that knows what is shown
    cheap_now : is_known old.memory ≡ true → old.owed ≡ [] → old.virtual.repaint ≡ false → tells_sent answer ≡ true → (opened state : TerminalState) → Reached profile old.memory opened (begun_in answers)
        → runs profile opened (begun_in answers) ≡ Some state → IsCheap profile state old.virtual.picture answer
    cheap_now known nothing paint well opened state reached run =
        let same : reached.now ≡ state = some_same reached.now state (sym reached.run ∙ run) in
        let plan = (made.well well).plan in
        let none = (made.well well).nothing in
        let bytes : count_of answer ≡ length (all_bytes profile (begun_of answer)) =
        sent.cut.bytes ∙ sym (ap length (append-nil sent.cut.taken)) ∙ sym (ap (λ r. length (sent.cut.taken ++ r)) none) ∙ sym (ap length sent.cut.whole) ∙ ap (λ o. length (o ++ all_bytes profile (begun_of answer))) nothing in
        let few : length (all_bytes profile (begun_of answer)) ≤ length (all_bytes profile (joined_of profile old.memory old.virtual.picture)) =
        subst (λ p. length (all_bytes p (begun_of answer)) ≤ length (all_bytes p (joined_of p old.memory old.virtual.picture))) is.same (cheap.joined old.profile old.memory old.virtual (begun_of answer) plan known paint) in
        let joined : joined_of profile old.memory old.virtual.picture ≡ joined_of profile (remembered profile.rows profile.columns state) old.virtual.picture =
        ap (λ m. joined_of profile m old.virtual.picture) (remembers.is (abilities profile) old.memory (subst (λ p. MayBe (abilities p) old.memory) is.same (made.well well).possible).state.whole state (subst (Agrees (abilities profile) old.memory) same reached.agrees) known) in
        let less : length (all_bytes profile (begun_of answer)) ≤ length (all_bytes profile (joined_of profile (remembered profile.rows profile.columns state) old.virtual.picture)) =
        subst (λ ops. length (all_bytes profile (begun_of answer)) ≤ length (all_bytes profile ops)) joined few in
        omega (arith, bytes, less)

    cheap_at : (n : ℕ) (opened : TerminalState) → MayBegin profile first calls (answers ++ answer ∷ []) n opened → (i : ℕ) → n ≤ i → (i < length answers) ⊎ (i ≡ length answers)
        → IsKnownAt profile first calls (answers ++ answer ∷ []) i → (drawn_at first calls (answers ++ answer ∷ []) i).virtual.repaint ≡ false
        → tells_sent (get_or (answers ++ answer ∷ []) i Nothing) ≡ true → (state : TerminalState) → runs profile opened (begun_in (take i (answers ++ answer ∷ []))) ≡ Some state
        → IsCheap profile state (drawn_at first calls (answers ++ answer ∷ []) i).virtual.picture (get_or (answers ++ answer ∷ []) i Nothing)
    cheap_at n opened begin i from (inl l) at paint well state run =
        let few : take i (answers ++ answer ∷ []) ≡ take i answers = first_of i answers answer (omega (arith, l)) in
        let drawn : drawn_at first calls (answers ++ answer ∷ []) i ≡ drawn_at first calls answers i = part i (omega (arith, l)) in
        let told : get_or (answers ++ answer ∷ []) i Nothing ≡ get_or answers i Nothing = get_or_append_left answers (answer ∷ []) Nothing i l in
        let held = is.holds n opened (omega (arith, from, l)) (begin_before n opened (omega (arith, from, l)) begin) in
        subst (λ d. IsCheap profile state d.virtual.picture (get_or (answers ++ answer ∷ []) i Nothing)) (sym drawn)
        (subst (IsCheap profile state (drawn_at first calls answers i).virtual.picture) (sym told)
        (held.cheap_where_known i from l (record { all = sym (ap is_known (part_memory i (omega (arith, l)))) ∙ at.all; nothing = subst (OwesNothing profile first) few at.nothing }) (sym (ap (λ d. d.virtual.repaint) drawn) ∙ paint) (sym (ap tells_sent told) ∙ well) state
        (sym (ap (λ a. runs profile opened (begun_in a)) few) ∙ run)))
    cheap_at n opened begin i from (inr e) at paint well state run =
        let few : take i (answers ++ answer ∷ []) ≡ answers = ap (λ n. take n (answers ++ answer ∷ [])) e ∙ first_of (length answers) answers answer (omega arith) ∙ all_answers in
        let drawn : drawn_at first calls (answers ++ answer ∷ []) i ≡ drawn_of old = ap (drawn_at first calls (answers ++ answer ∷ [])) e ∙ part (length answers) (omega arith) ∙ sym is.drawn in
        let told : get_or (answers ++ answer ∷ []) i Nothing ≡ answer = ap (λ n. get_or (answers ++ answer ∷ []) n Nothing) e ∙ last_of answers answer Nothing in
        let remembered : remembered_at profile first calls (answers ++ answer ∷ []) i ≡ old.memory = ap (remembered_at profile first calls (answers ++ answer ∷ [])) e ∙ part_memory (length answers) (omega arith) ∙ sym is.memory in
        let reached = is.reached n opened (omega (arith, from, e)) (begin_before n opened (omega (arith, from, e)) begin) in
        subst (λ d. IsCheap profile state d.virtual.picture (get_or (answers ++ answer ∷ []) i Nothing)) (sym drawn)
        (subst (IsCheap profile state old.virtual.picture) (sym told)
        (cheap_now (sym (ap is_known remembered) ∙ at.all) (all_taken (subst (OwesNothing profile first) few at.nothing)) (sym (ap (λ d. d.virtual.repaint) drawn) ∙ paint) (sym (ap tells_sent told) ∙ well) opened state reached
        (sym (ap (λ a. runs profile opened (begun_in a)) few) ∙ run)))

    last_moment : (opened : TerminalState) → IsState (abilities profile) opened → (reached : Reached profile old.memory opened (begun_in answers))
        → Moment profile opened first.owed new.virtual.picture (begun_in (answers ++ answer ∷ [])) (is.taken ++ sent.cut.taken) (tells_sent answer)
    last_moment opened state reached =
        let next = sent.defined reached.now reached.agrees in
        let run : runs profile opened (begun_in (answers ++ answer ∷ [])) ≡ Some next.new =
        ap (runs profile opened) (begun_more answers answer) ∙ laws.joined profile opened reached.now (begun_in answers) (begun_of answer) reached.run ∙ next.run in
        moment_now acts profile opened next.new first.owed (begun_in (answers ++ answer ∷ [])) (is.taken ++ sent.cut.taken) new.owed new.virtual.picture (tells_sent answer) state run bytes_now one_now
        (λ well. subst (Shows (abilities profile) next.new) (sym (made.well well).picture)
        (shows_now profile reached.now next.new (begun_of answer) old.virtual.picture next.run
        ((subst (λ p. IsPlan p old.memory old.virtual (begun_of answer)) is.same (made.well well).plan).shows reached.now (record { state = reached.agrees.is_state; agrees = λ _. reached.agrees }))))
        (λ well. (made.well well).nothing)

    moment_at : (n : ℕ) (opened : TerminalState) → MayBegin profile first calls (answers ++ answer ∷ []) n opened → (i : ℕ) → n ≤ i → (i < length answers) ⊎ (i ≡ length answers)
        → Moment profile opened first.owed (drawn_at first calls (answers ++ answer ∷ []) (i + 1)).virtual.picture (begun_in (take (i + 1) (answers ++ answer ∷ [])))
        (take (count_in (take (i + 1) (answers ++ answer ∷ []))) (is.taken ++ sent.cut.taken)) (tells_sent (get_or (answers ++ answer ∷ []) i Nothing))
    moment_at n opened begin i from (inl l) =
        let held = is.holds n opened (omega (arith, from, l)) (begin_before n opened (omega (arith, from, l)) begin) in
        subst (λ d. Moment profile opened first.owed d.virtual.picture (begun_in (take (i + 1) (answers ++ answer ∷ []))) (take (count_in (take (i + 1) (answers ++ answer ∷ []))) (is.taken ++ sent.cut.taken)) (tells_sent (get_or (answers ++ answer ∷ []) i Nothing)))
        (sym (part (i + 1) (omega (arith, l))))
        (subst (λ a. Moment profile opened first.owed (drawn_at first calls answers (i + 1)).virtual.picture (begun_in a) (take (count_in a) (is.taken ++ sent.cut.taken)) (tells_sent (get_or (answers ++ answer ∷ []) i Nothing)))
        (sym (first_of (i + 1) answers answer (omega (arith, l))))
        (subst (λ a. Moment profile opened first.owed (drawn_at first calls answers (i + 1)).virtual.picture (begun_in (take (i + 1) answers)) (take (count_in (take (i + 1) answers)) (is.taken ++ sent.cut.taken)) (tells_sent a))
        (sym (get_or_append_left answers (answer ∷ []) Nothing i l))
        (subst (λ t. Moment profile opened first.owed (drawn_at first calls answers (i + 1)).virtual.picture (begun_in (take (i + 1) answers)) t (tells_sent (get_or answers i Nothing)))
        (sym (take-append-le (count_in (take (i + 1) answers)) is.taken sent.cut.taken (omega (arith, count_part (i + 1) answers, is.counted_all))))
        (held.moments i from l))))
    moment_at n opened begin i from (inr e) =
        subst (λ k. Moment profile opened first.owed (drawn_at first calls (answers ++ answer ∷ []) (k + 1)).virtual.picture (begun_in (take (k + 1) (answers ++ answer ∷ [])))
        (take (count_in (take (k + 1) (answers ++ answer ∷ []))) (is.taken ++ sent.cut.taken)) (tells_sent (get_or (answers ++ answer ∷ []) k Nothing))) (sym e)
        (subst (λ a. Moment profile opened first.owed (drawn_at first calls (answers ++ answer ∷ []) (length answers + 1)).virtual.picture (begun_in a) (take (count_in a) (is.taken ++ sent.cut.taken))
        (tells_sent (get_or (answers ++ answer ∷ []) (length answers) Nothing))) (sym (all_of answers answer))
        (subst (λ a. Moment profile opened first.owed (drawn_at first calls (answers ++ answer ∷ []) (length answers + 1)).virtual.picture (begun_in (answers ++ answer ∷ []))
        (take (count_in (answers ++ answer ∷ [])) (is.taken ++ sent.cut.taken)) (tells_sent a)) (sym (last_of answers answer Nothing))
        (subst (λ d. Moment profile opened first.owed d.virtual.picture (begun_in (answers ++ answer ∷ [])) (take (count_in (answers ++ answer ∷ [])) (is.taken ++ sent.cut.taken)) (tells_sent answer))
        (made.drawn ∙ ap (λ d. after_call d call answer) is.drawn ∙ sym whole)
        (subst (λ t. Moment profile opened first.owed new.virtual.picture (begun_in (answers ++ answer ∷ [])) t (tells_sent answer))
        (sym (take_all (count_in (answers ++ answer ∷ [])) (is.taken ++ sent.cut.taken) (omega (arith, counts))))
        (last_moment opened begin.agrees.is_state (is.reached n opened (omega (arith, from, e)) (begin_before n opened (omega (arith, from, e)) begin)))))))

-- no call was made yet
pub none_made : (calls : List Call) (screen : ScreenState) (w : WriterView) → SoFar screen.profile (beginning_of screen) screen calls [] screen w w
none_made calls screen w = record {
  same = refl;
  keys = refl;
  opening = refl;
  closing = refl;
  drawn = refl;
  memory = refl;
  taken = [];
  writer = appends_none w.taken;
  counted_all = refl;
  puts = refl;
  finishes = refl;
  right = λ i few. absurd (omega (arith, few));
  bytes = sym (append-nil screen.owed);
  one = omega arith;
  quiet = λ none. refl;
  known = λ j i few since. absurd (omega (arith, few, since.before));
  holds = λ n opened few begin. record {
    moments = λ i from until. absurd (omega (arith, until));
    cheap = λ j i from until. absurd (omega (arith, until));
    cheap_where_known = λ i from until. absurd (omega (arith, until));
  };
  reached = λ n opened few begin. at_first n opened begin few;
}
  where
    at_first : (n : ℕ) (opened : TerminalState) → MayBegin screen.profile (beginning_of screen) calls [] n opened → n ≤ 0 → Reached screen.profile screen.memory opened []
    at_first zero opened begin few = record { now = opened; run = refl; agrees = begin.agrees }
    at_first (suc n) opened begin few = absurd (omega (arith, few))

-- ---- the loop

-- an element that is there is read whatever stands for one that is not
pub item_is : {A : Type 0} → (xs : List A) (i : ℕ) (x d : A) → i < length xs → x ≡ get_or xs i x → get_or xs i d ≡ x
item_is [] i x d inside is = absurd (omega arith)
item_is (y ∷ xs) zero x d inside is = sym is
item_is (y ∷ xs) (suc i) x d inside is = item_is xs i x d (omega (arith, inside)) is

pub last_more : (before : Bool) (answers : List Answer) (answer : Answer) → last_ok_after before (answers ++ answer ∷ []) ≡ ended_well (last_ok_after before answers) answer
last_more before [] answer = refl
last_more before (a ∷ answers) answer = last_more (ended_well before a) answers answer

-- all calls were made
pub session_of : (profile : ProfileView) (first : Beginning) (begun : ScreenState) (calls : List Call) (answers : List Answer) (screen : ScreenState) (old new : WriterView) → (is : SoFar profile first begun calls answers screen old new) → length answers ≡ length calls
    → IsSession profile first calls answers is.taken
session_of profile first begun calls answers screen old new is all = record {
  answered_all = all;
  counted_all = is.counted_all;
  right = is.right;
  known = is.known;
  holds = is.holds;
}

pub made_of : (old new : ScreenState) (calls : List Call) (report : Report) (before after : WriterView) → SoFar old.profile (beginning_of old) old calls report.answers new before after → length report.answers ≡ length calls
    → report.last_ok ≡ last_ok_after false report.answers → MayBe (abilities old.profile) old.memory → AreMade old new calls before after report
made_of old new calls report before after is all last possible = record {
  possible = possible;
  taken = is.taken;
  writer = is.writer;
  session = session_of old.profile (beginning_of old) old calls report.answers new before after is all;
  last = last;
  puts = is.puts;
  finishes = is.finishes;
  profile = is.same;
  keys = is.keys;
  opening = is.opening;
  closing = is.closing;
  drawn = is.drawn;
  memory = is.memory;
  bytes = is.bytes;
  agrees = λ n opened now few begin run. let reached = is.reached n opened few begin in subst (Agrees (abilities old.profile) new.memory) (some_same reached.now now (sym reached.run ∙ run)) reached.agrees;
}

-- those on a screen that was just opened
pub made_afresh : MemoryRuns → (old new : ScreenState) (calls : List Call) (report : Report) (before after : WriterView) → IsProfile old.profile → IsFresh old → AreMade old new calls before after report → AreMadeAfresh old.profile calls before after report
made_afresh memories old new calls report before after is fresh made = record {
  taken = made.taken;
  writer = made.writer;
  session = subst (λ first. IsSession old.profile first calls report.answers made.taken) fresh.begins made.session;
  any = λ opened state. (subst (λ first. IsSession old.profile first calls report.answers made.taken) fresh.begins made.session).holds 0 opened (omega arith)
      (record { quiet = refl; agrees = memories.at_first old.profile is opened state });
  last = made.last;
  puts = made.puts;
  finishes = made.finishes;
}
