-- What an update is planned on: words of private functions.
use Rattle.std.specs.Prelude.{◌≡◌, IfSome, length}
use Rattle.scr_cells.specs.Grids.{grid_row}
use Rattle.scr_cells.specs.PictureViews.{PictureView}
use Rattle.scr_plan.specs.declared.scenes.Scene.{Scene}
use Rattle.scr_plan.specs.declared.scenes.Line.{Line}
use Rattle.scr_plan.specs.declared.scenes.Update.{Update}
use Rattle.scr_plan.specs.Code.Painters.{painter_of}
use Rattle.scr_plan.specs.Code.Planning.{range_by}
use Rattle.scr_plan.specs.Repaints.{IsSizeOf, ShowsOutside}
use Rattle.scr_plan.specs.Scratch.{Fits}

-- the picture has the profile's size, and painting goes by the profile
pub record IsScene (scene : Scene) : Type 0 where
  pub painter : scene.painter ≡ painter_of scene.profile.now
  pub fits : Fits scene.profile.now scene.picture.now

-- the cells are those of a picture's row, and as many looks are shown there
pub record IsLine (picture : PictureView) (line : Line) : Type 0 where
  pub cells : line.cells.now ≡ grid_row picture.lines line.row
  pub wide : length line.cells.now ≡ picture.columns
  pub width : IfSome line.before (λ looks. length looks.now ≡ picture.columns)

-- the scene is that of what is wanted, all have the profile's size, and a known row shows the picture except in the
-- columns that are looked at
pub record IsUpdate (update : Update) : Type 0 where
  pub scene : IsScene update.scene
  pub picture : update.scene.picture.now ≡ update.wanted.now.picture
  pub fits : Fits update.scene.profile.now update.wanted.now.picture
  pub size : IsSizeOf update.wanted.now.picture update.memory.now
  pub same : ShowsOutside (range_by update.by) update.scene.profile.now update.memory.now update.wanted.now
