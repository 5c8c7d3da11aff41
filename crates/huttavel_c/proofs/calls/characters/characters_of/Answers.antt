use Rattle.huttavel_c.proofs.CharacterLaws.{border_of_eight}
use Rattle.huttavel_c.proofs.calls.characters.characters_of.Goals as goal

pub returns : goal.returns
returns c desk window =
    border_of_eight desk window _ _ _ _ _ _ _ _ _ _ _ _ _ _ _ _ c.character_of.ensures c.character_of-2.ensures c.character_of-3.ensures c.character_of-4.ensures c.character_of-5.ensures c.character_of-6.ensures
    c.character_of-7.ensures c.character_of-8.ensures
