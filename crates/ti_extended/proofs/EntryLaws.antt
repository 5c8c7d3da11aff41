-- Whole entries that are made of an entry, or get another number.
use Rattle.std.proofs.Common.{◌≡◌, ℕ, ◌≤◌, ◌&&◌, min, nat_le, true, refl, sym, ◌∙◌, ap, arith, zero, suc, List, [], ◌∷◌, length, map, set, Option, Some, None, IfSome, slice_index_or}
use Rattle.std.specs.List.{list_all}
use Rattle.std.proofs.lemmas.Bool.Decides.{nat_tests}
use Rattle.std.proofs.lemmas.List.{length-map, map-set}
use Rattle.ti_caps.specs.Description.{Description, IsDescription}
use Rattle.ti_extended.specs.Whole.{Capabilities, IsWhole, Whole, clamped, is_small_number}
use Rattle.ti_extended.proofs.TextLaws.{and_parts}

small_test : (n : ℕ) → n ≤ 2147483647 → nat_le n 2147483647 ≡ true
small_test n le = grind (arith, nat_tests)

set_small : (os : List (Option ℕ)) (i n : ℕ) → n ≤ 2147483647 → list_all is_small_number os ≡ true → list_all is_small_number (set os i (Some n)) ≡ true
set_small [] i n le h = refl
set_small (o ∷ os) zero n le h = ap (λ b. b && list_all is_small_number os) (small_test n le) ∙ (and_parts (is_small_number o) (list_all is_small_number os) h).1
set_small (o ∷ os) (suc i) n le h =
    let parts = and_parts (is_small_number o) (list_all is_small_number os) h in
    ap (λ b. b && list_all is_small_number (set os i (Some n))) parts.0 ∙ set_small os i n le parts.1

pub set_whole : (w : Whole) (e : Description) (slot i n m : ℕ) → IsWhole w → n ≤ 2147483647 → m ≡ min n 32767 → i ≡ slot
    → e ≡ record w.entry { numbers = set w.entry.numbers slot (Some m) } → IsWhole (record { entry = e; numbers = set w.numbers i (Some n); extended = w.extended })
set_whole w e slot i n m h le is at changed = record {
  clamps =
      ap (λ (d : Description). d.numbers) changed ∙ (λ k. set (h.clamps k) (sym at k) (Some (is k))) ∙ sym (map-set clamped w.numbers i (Some n));
  small = set_small w.numbers i n le h.small;
}

fits : (o : Option ℕ) → IfSome o (λ n. n ≤ 32767) → (clamped o ≡ o) × (is_small_number o ≡ true)
fits None h = (refl, refl)
fits (Some n) h =
    let least : min n 32767 ≡ n = grind (arith, nat_tests) in
    let small : nat_le n 2147483647 ≡ true = grind (arith, nat_tests) in
    (ap Some least, small)

all_fit : (os : List (Option ℕ)) → ((i : ℕ) → IfSome (slice_index_or os i None) (λ n. n ≤ 32767)) → (map clamped os ≡ os) × (list_all is_small_number os ≡ true)
all_fit [] h = (refl, refl)
all_fit (o ∷ os) h =
    let one = fits o (h 0) in
    let rest = all_fit os (λ i. h (suc i)) in
    (λ k. one.0 k ∷ rest.0 k, ap (λ b. b && list_all is_small_number os) one.1 ∙ rest.1)

pub new_whole : (d : Description) (ns : List (Option ℕ)) (e : Capabilities) → IsDescription d → ns ≡ d.numbers → IsWhole (record { entry = d; numbers = ns; extended = e })
new_whole d ns e h same =
    let all = all_fit d.numbers h.small in
    record { clamps = sym all.0 ∙ ap (map clamped) (sym same); small = ap (list_all is_small_number) same ∙ all.1 }

pub many_of : (d : Description) (ns : List (Option ℕ)) → IsDescription d → d.numbers ≡ map clamped ns → length ns ≡ 64
many_of d ns is e = sym (length-map ns clamped) ∙ ap length (sym e) ∙ is.numbers
