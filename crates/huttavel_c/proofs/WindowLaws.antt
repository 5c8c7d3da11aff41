-- A text is refused where the window is.
use Rattle.std.proofs.Common.{◌≡◌, ◌∙◌, ℕ, ap, refl, sym, subst, List, Result, Ok, Err}
use Rattle.std.specs.Prelude.{IsOk}
use Rattle.std.specs.List.{flat_map}
use Rattle.scr_windows.specs.declared.faults.Added.{Added}
use Rattle.scr_windows.specs.declared.faults.WinFault.{WinFault}
use Rattle.scr_windows.specs.DeskViews.{DeskView, window_at}
use Rattle.scr_windows.specs.Changes.{index_of, on_window}
use Rattle.scr_windows.specs.Calls.Adding.{add_str_call, fitted, text_added}
use Rattle.scr_windows.specs.Calls.Reading.{about_window, size_answer}

module _ (desk : DeskView) (window : ℕ) (text : List ℕ) where
  size_at : ℕ → Result (ℕ × ℕ) WinFault
  size_at i = Ok ((window_at desk i).frame.area.rows, (window_at desk i).frame.area.columns)

  added_at : ℕ → DeskView × Result Added WinFault
  added_at i = ((text_added desk i (flat_map fitted text)).0, Ok (text_added desk i (flat_map fitted text)).1)

  pub text_refused : (fault : WinFault) → size_answer desk window ≡ Err fault → add_str_call desk window text ≡ (desk, Err fault)
  unfolding size_answer add_str_call size_at added_at
  text_refused fault is = by (index_of desk window) refl
    where
      by : (r : Result ℕ WinFault) → index_of desk window ≡ r → on_window desk (index_of desk window) added_at ≡ (desk, Err fault)
      by (Err other) e =
          let same : ◌≡◌ {A = Result (ℕ × ℕ) WinFault} (Err other) (Err fault) = sym (ap (λ r. about_window r size_at) e) ∙ is in
          let one : other ≡ fault = cc in
          ap (λ r. on_window desk r added_at) e ∙ ap (λ x. (desk, Err x)) one
      by (Ok i) e =
          let clash : ◌≡◌ {A = Result (ℕ × ℕ) WinFault} (size_at i) (Err fault) = sym (ap (λ r. about_window r size_at) e) ∙ is in
          cc

  pub text_taken : (size : ℕ × ℕ) → size_answer desk window ≡ Ok size → IsOk (add_str_call desk window text).1
  unfolding size_answer add_str_call size_at added_at
  text_taken size is = by (index_of desk window) refl
    where
      by : (r : Result ℕ WinFault) → index_of desk window ≡ r → IsOk (on_window desk (index_of desk window) added_at).1
      by (Err other) e =
          let clash : ◌≡◌ {A = Result (ℕ × ℕ) WinFault} (Err other) (Ok size) = sym (ap (λ r. about_window r size_at) e) ∙ is in
          cc
      by (Ok i) e = subst (λ r. IsOk (on_window desk r added_at).1) (sym e) refl
