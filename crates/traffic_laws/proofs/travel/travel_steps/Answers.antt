use Rattle.traffic_laws.proofs.Travels.{enters-in-order, leaves-in-order, takes-a-step}
use Rattle.traffic_laws.proofs.travel.travel_steps.Goals as goal

pub returns-clause-takes_a_step : goal.returns-clause-takes_a_step
returns-clause-takes_a_step c = λ net i curves.
    rw (c.come_past.ensures, c.gone_past.ensures)
    (takes-a-step c.args.first c.args.come.now c.args.gone.now c.args.k net i curves)

pub returns-clause-keeps_order : goal.returns-clause-keeps_order
returns-clause-keeps_order c = λ before earlier.
    rw (c.come_past.ensures, c.gone_past.ensures)
    (enters-in-order c.args.first c.args.come.now before c.args.k earlier, leaves-in-order c.args.gone.now before c.args.k earlier)
