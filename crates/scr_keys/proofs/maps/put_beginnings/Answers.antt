use Rattle.std.proofs.Common.{◌≡◌, ◌∙◌, ◌+◌, ◌-◌, ◌++◌, [], ◌∷◌, refl, ◌||◌, sym, ap, arith, length, take, is_some}
use Rattle.std.specs.Str.{bytes_eq}
use Rattle.scr_keys.specs.Code.Maps.{seen}
use Rattle.scr_keys.specs.Keys.{key_of}
use Rattle.scr_keys.proofs.MapLaws.{begins_all, begins_early, begins_from, begins_more, begins_none, found_more, or_assoc}
use Rattle.scr_keys.proofs.maps.put_beginnings.Goals as goal

pub loop-len-init : goal.loop-len-init
loop-len-init c = record {
  inside = omega arith;
  found = λ bytes. begins_none (is_some (key_of (seen (λ k. k.items) c.args.map.now.entries) bytes)) (length c.args.text.now) bytes c.args.text.now refl;
}

pub loop-len-preserved : goal.loop-len-preserved
loop-len-preserved c = record {
  inside = omega arith;
  found = λ bytes.
      let n = c.loop-len.len - 1 in
      let e : c.loop-len.len ≡ n + 1 = omega arith in
      let old = is_some (key_of (seen (λ k. k.items) c.args.map.now.entries) bytes) in
      ap (λ keys. is_some (key_of keys bytes)) c.in_ok-add.ensures ∙ ap (λ t. is_some (key_of (seen (λ k. k.items) c.loop-len.map.entries ++ (t, c.args.slot) ∷ []) bytes)) c.in_ok-from_slice.ensures.items
      ∙ found_more (seen (λ k. k.items) c.loop-len.map.entries) (take n c.args.text.now) c.args.slot bytes
      ∙ ap (λ b. b || bytes_eq bytes (take n c.args.text.now)) (c.loop-len.invariant.found bytes ∙ ap (λ k. old || begins_from k bytes c.args.text.now) e)
      ∙ or_assoc old (begins_from (n + 1) bytes c.args.text.now) (bytes_eq bytes (take n c.args.text.now))
      ∙ ap (λ b. old || b) (begins_more n bytes c.args.text.now (omega arith));
}

pub returns-then-is_some : goal.returns-then-is_some
returns-then-is_some c =
    let n = c.loop-len.len - 1 in
    let e : c.loop-len.len ≡ n + 1 = omega arith in
    begins_early (seen (λ k. k.items) c.args.map.now.entries) (seen (λ k. k.items) c.loop-len.map.entries) n c.args.text.now (omega arith) c.requires
    (λ bytes. c.loop-len.invariant.found bytes ∙ ap (λ k. is_some (key_of (seen (λ k. k.items) c.args.map.now.entries) bytes) || begins_from k bytes c.args.text.now) e)
    (sym (c.is_some.ensures ∙ ap is_some c.position_of.ensures) ∙ c.if-is_some.true)

pub returns : goal.returns
returns c = λ bytes.
    c.loop-len.invariant.found bytes ∙ ap (λ b. is_some (key_of (seen (λ k. k.items) c.args.map.now.entries) bytes) || b) (begins_all c.loop-len.len bytes c.args.text.now (omega arith))
