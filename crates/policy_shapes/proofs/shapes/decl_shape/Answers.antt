use Rattle.policy_shapes.proofs.shapes.decl_shape.Goals as goal

pub returns-in-Router-clause-shape : goal.returns-in-Router-clause-shape
returns-in-Router-clause-shape c = rw c.in-Router.is c.router_shape.ensures.shape
