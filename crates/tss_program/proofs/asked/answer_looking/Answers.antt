use Rattle.tss_program.proofs.Ends.{shown-as}
use Rattle.tss_program.proofs.asked.answer_looking.Goals as goal

pub returns-in-Order : goal.returns-in-Order
returns-in-Order c = shown-as _ _ _ _ c.in-Order.is c.order_arena.ensures

pub returns-in-Play : goal.returns-in-Play
returns-in-Play c = shown-as _ _ _ _ c.in-Play.is c.play_arena.ensures

pub returns-in-PaintOrder : goal.returns-in-PaintOrder
returns-in-PaintOrder c = shown-as _ _ _ _ c.in-PaintOrder.is c.order_painting.ensures

pub returns-in-PaintPlay : goal.returns-in-PaintPlay
returns-in-PaintPlay c = shown-as _ _ _ _ c.in-PaintPlay.is c.play_painting.ensures

pub returns-in-Join : goal.returns-in-Join
returns-in-Join c = shown-as _ _ _ _ c.in-Join.is (λ ws. c.join_match.ensures)
