-- Calls with codes that are the same character, or none.
use Rattle.std.proofs.Common.{◌≡◌, ◌∙◌, ℕ, ap, refl, sym, List, [], ◌∷◌, Bool, true, false, cond, ◌&&◌, Ok, Err}
use Rattle.std.proofs.str.Laws.{both}
use Rattle.std.specs.List.{list_all}
use Rattle.scr_cells.specs.Characters.{is_character}
use Rattle.scr_cells.specs.declared.attributes.Attrs.{Attrs}
use Rattle.scr_windows.specs.declared.faults.WinFault.TheVariants.{NotOneColumn}
use Rattle.scr_windows.specs.DeskViews.{DeskView}
use Rattle.scr_windows.specs.Changes.{index_of, on_window}
use Rattle.scr_windows.specs.Calls.Adding.{add_character_call, character_added, character_inserted, insert_character_call, line_across_of_call, line_down_of_call, lined_across, lined_down}
use Rattle.scr_windows.specs.Calls.Borders.{border_drawn, border_of_call}
use Rattle.curses.specs.Forwarding.{OnDesk}
use Rattle.curses.specs.ScreenStates.{ScreenState}
use Rattle.huttavel_c.specs.Characters.{AreAlike}
use Rattle.huttavel_c.specs.declared.sessions.Session.{Session}

-- A session whose screen made a call that is the same as another.
pub answered : {A B : Type 0} (shown : A → B) (session : Session) (screen : ScreenState) (answer : A) (result : B) (call other : DeskView × A)
    → OnDesk session.screen screen answer call → result ≡ shown answer → call ≡ other
    → (◌≡◌ {A = Session} (record session { screen = screen }) (record session { screen = record session.screen { desk = other.0 } })) × (result ≡ shown other.1)
answered shown session screen answer result call other on is same =
    let after = on.0 ∙ ap (λ c. record session.screen { desk = c.0 }) same in
    ((λ i. record session { screen = after i }), is ∙ ap shown (on.1 ∙ ap (λ c. c.1) same))

abbrev AreAllAlike : List ℕ → List ℕ → Type 0
AreAllAlike [] [] = Unit {0}
AreAllAlike [] (y ∷ ys) = ⊥
AreAllAlike (x ∷ xs) [] = ⊥
AreAllAlike (x ∷ xs) (y ∷ ys) = AreAlike x y × AreAllAlike xs ys

all_both : (xs ys : List ℕ) → AreAllAlike xs ys → list_all is_character xs ≡ list_all is_character ys
all_both [] [] h = refl
all_both [] (y ∷ ys) h = absurd h
all_both (x ∷ xs) [] h = absurd h
all_both (x ∷ xs) (y ∷ ys) h = let first = h.0.both in let rest = all_both xs ys h.1 in λ i. first i && rest i

all_same : (xs ys : List ℕ) → AreAllAlike xs ys → list_all is_character ys ≡ true → xs ≡ ys
all_same [] [] h all = refl
all_same [] (y ∷ ys) h all = absurd h
all_same (x ∷ xs) [] h all = absurd h
all_same (x ∷ xs) (y ∷ ys) h all =
    let parts = both (is_character y) (list_all is_character ys) all in
    let first = h.0.same parts.0 in
    let rest = all_same xs ys h.1 parts.1 in
    λ i. first i ∷ rest i

-- a border
pub border_same : (desk : DeskView) (window : ℕ) (xs ys : List ℕ) → AreAllAlike xs ys → border_of_call desk window xs ≡ border_of_call desk window ys
unfolding border_of_call
border_same desk window xs ys h = by (list_all is_character ys) refl
  where
    by : (b : Bool) → list_all is_character ys ≡ b → border_of_call desk window xs ≡ border_of_call desk window ys
    by true e = ap (border_of_call desk window) (all_same xs ys h e)
    by false e =
        ap (λ b. on_window desk (index_of desk window) (λ i. cond b (border_drawn desk i xs, Ok tt) (desk, Err NotOneColumn))) (all_both xs ys h ∙ e)
        ∙ sym (ap (λ b. on_window desk (index_of desk window) (λ i. cond b (border_drawn desk i ys, Ok tt) (desk, Err NotOneColumn))) e)

pub border_of_eight : (desk : DeskView) (window a b c d e f g h i j k l m n o p : ℕ) → AreAlike a b → AreAlike c d → AreAlike e f → AreAlike g h → AreAlike i j → AreAlike k l → AreAlike m n → AreAlike o p
    → border_of_call desk window (a ∷ c ∷ e ∷ g ∷ i ∷ k ∷ m ∷ o ∷ []) ≡ border_of_call desk window (b ∷ d ∷ f ∷ h ∷ j ∷ l ∷ n ∷ p ∷ [])
border_of_eight desk window a b c d e f g h i j k l m n o p h1 h2 h3 h4 h5 h6 h7 h8 =
    border_same desk window (a ∷ c ∷ e ∷ g ∷ i ∷ k ∷ m ∷ o ∷ []) (b ∷ d ∷ f ∷ h ∷ j ∷ l ∷ n ∷ p ∷ []) (h1, (h2, (h3, (h4, (h5, (h6, (h7, (h8, tt))))))))

-- a character that is added
pub added_same : (desk : DeskView) (window x y : ℕ) (attrs : Attrs) → AreAlike x y → add_character_call desk window x attrs ≡ add_character_call desk window y attrs
unfolding add_character_call
added_same desk window x y attrs h = by (is_character y) refl
  where
    by : (b : Bool) → is_character y ≡ b → add_character_call desk window x attrs ≡ add_character_call desk window y attrs
    by true e = ap (λ n. add_character_call desk window n attrs) (h.same e)
    by false e =
        ap (λ b. on_window desk (index_of desk window) (λ i. cond b ((character_added desk i x attrs).0, Ok (character_added desk i x attrs).1) (desk, Err NotOneColumn))) (h.both ∙ e)
        ∙ sym (ap (λ b. on_window desk (index_of desk window) (λ i. cond b ((character_added desk i y attrs).0, Ok (character_added desk i y attrs).1) (desk, Err NotOneColumn))) e)

-- one that is inserted
pub inserted_same : (desk : DeskView) (window x y : ℕ) (attrs : Attrs) → AreAlike x y → insert_character_call desk window x attrs ≡ insert_character_call desk window y attrs
unfolding insert_character_call
inserted_same desk window x y attrs h = by (is_character y) refl
  where
    by : (b : Bool) → is_character y ≡ b → insert_character_call desk window x attrs ≡ insert_character_call desk window y attrs
    by true e = ap (λ n. insert_character_call desk window n attrs) (h.same e)
    by false e =
        ap (λ b. on_window desk (index_of desk window) (λ i. cond b (character_inserted desk i x attrs, Ok tt) (desk, Err NotOneColumn))) (h.both ∙ e)
        ∙ sym (ap (λ b. on_window desk (index_of desk window) (λ i. cond b (character_inserted desk i y attrs, Ok tt) (desk, Err NotOneColumn))) e)

-- lines of one
pub across_same : (desk : DeskView) (window x y n : ℕ) → AreAlike x y → line_across_of_call desk window x n ≡ line_across_of_call desk window y n
unfolding line_across_of_call
across_same desk window x y n h = by (is_character y) refl
  where
    by : (b : Bool) → is_character y ≡ b → line_across_of_call desk window x n ≡ line_across_of_call desk window y n
    by true e = ap (λ z. line_across_of_call desk window z n) (h.same e)
    by false e =
        ap (λ b. on_window desk (index_of desk window) (λ i. cond b (lined_across desk i x n, Ok tt) (desk, Err NotOneColumn))) (h.both ∙ e)
        ∙ sym (ap (λ b. on_window desk (index_of desk window) (λ i. cond b (lined_across desk i y n, Ok tt) (desk, Err NotOneColumn))) e)

pub down_same : (desk : DeskView) (window x y n : ℕ) → AreAlike x y → line_down_of_call desk window x n ≡ line_down_of_call desk window y n
unfolding line_down_of_call
down_same desk window x y n h = by (is_character y) refl
  where
    by : (b : Bool) → is_character y ≡ b → line_down_of_call desk window x n ≡ line_down_of_call desk window y n
    by true e = ap (λ z. line_down_of_call desk window z n) (h.same e)
    by false e =
        ap (λ b. on_window desk (index_of desk window) (λ i. cond b (lined_down desk i x n, Ok tt) (desk, Err NotOneColumn))) (h.both ∙ e)
        ∙ sym (ap (λ b. on_window desk (index_of desk window) (λ i. cond b (lined_down desk i y n, Ok tt) (desk, Err NotOneColumn))) e)
