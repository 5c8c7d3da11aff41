use Rattle.std.proofs.Common.{◌∙◌, ◌||◌, ap, arith, get_or, is_some, length, max, subst, sym}
use Rattle.scr_keys.specs.Code.Maps.{IsTable, length_from}
use Rattle.scr_keys.specs.Keys.{is_beginning, key_of}
use Rattle.scr_keys.specs.contracts.maps.KeyMaps.{the_view}
use Rattle.scr_keys.proofs.MapLaws.{on_made}
use Rattle.scr_keys.proofs.TableLaws.{closed, table_more}
use Rattle.scr_keys.proofs.maps.KeyMaps.add_key.Goals as goal

pub put_beginnings-requires : goal.put_beginnings-requires
put_beginnings-requires c = closed (the_view c.self.inside) (subst IsTable (sym c.make_room.ensures ∙ sym c.self.view_is) c.requires.table)

pub returns-clause-table : goal.returns-clause-table
returns-clause-table c =
    let old = the_view c.self.inside in
    let new = the_view (record { texts = c.add.new.map; beginnings = c.put_beginnings.new.map; longest = c.max-self-inside.result; firsts = c.add_text.new.firsts }) in
    on_made c.add.result
    (λ added. table_more old new c.args.text.items c.args.slot c.requires.few added
    (λ bytes. c.in_ok-put_beginnings.ensures bytes ∙ ap (λ t. is_some (key_of old.beginnings bytes) || is_beginning bytes t) c.deref-2.ensures.value)
    (omega (arith, c.max-self-inside.ensures, c.len.ensures, c.deref-3.ensures.len, ap length c.deref-3.ensures.value))
    (λ byte inside. c.add_text.ensures byte inside ∙ ap (λ t. max (get_or old.firsts byte 0) (length_from byte t)) c.deref-3.ensures.value)
    (subst IsTable (sym c.make_room.ensures ∙ sym c.self.view_is) c.requires.table))
    c.add.ensures
