use Rattle.region_body.proofs.followed_speed.follow_speeds.Goals as goal

pub returns-clause-in_force : goal.returns-clause-in_force
returns-clause-in_force c = λ speed are was p listed s from before. c.follow_all_speeds.ensures.in_force speed are p listed s from before
