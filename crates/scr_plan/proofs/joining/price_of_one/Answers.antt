use Rattle.std.proofs.Common.{ap, sym, ◌∙◌, ◌∷◌, []}
use Rattle.scr_plan.proofs.JoinedPriceLaws.{price, put_byte_price}
use Rattle.scr_plan.proofs.joining.price_of_one.Goals as goal

pub returns-in-Put : goal.returns-in-Put
returns-in-Put c = λ had. sym (ap (λ op. price c.args.profile.now (op ∷ [])) c.in-Put.is ∙ put_byte_price c.args.profile.now c.in-Put.field-0)
